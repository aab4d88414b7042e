-- A piece more, or a command.
use Rattle.std.proofs.Common.{◌≡◌, ◌-◌, ◌+◌, length, refl, ap, sym, ◌∙◌, subst, arith}
use Rattle.mt_log.specs.LogState.{next_place, told}
use Rattle.mt_log.specs.Places.{first_payload, payload_at}
use Rattle.mt_log.proofs.Places.{record_within}
use Rattle.mt_log.proofs.Standing.{tells_log}
use Rattle.mt_opening.specs.Opening.{IsLoading}
use Rattle.mt_opening.proofs.Looks.{there_on}
use Rattle.mt_opening.proofs.Loading.{loading_piece}
use Rattle.mt_opening.proofs.load.load_one.Goals as goal

pub load_command-requires-clause-ready : goal.load_command-requires-clause-ready
load_command-requires-clause-ready g c = record {
  there = there_on g.D.Disk.seen c.args.disk.now c.head_at.new.disk c.args.log.now c.in_ok-head.ensures.looks.read.seen_same c.requires.ready.there;
  is_open = c.requires.ready.is_open;
  place = λ ps is. c.requires.ready.place ps (sym (ap told c.in_ok-head.ensures.looks.read.seen_same) ∙ is);
}

pub returns-in_err-head-clause-looks : goal.returns-in_err-head-clause-looks
returns-in_err-head-clause-looks g c =
    let looks = c.in_err-head.ensures.looks in
    record { read = looks.read; stays = looks.stays; disk = λ is. looks.disk refl; faults = looks.faults }

pub returns-in-None-clause-foreign : goal.returns-in-None-clause-foreign
returns-in-None-clause-foreign g c why is ps told_is =
    let at = c.requires.ready.place ps told_is in
    let log = tells_log g.D.Disk.seen c.args.disk.now c.args.log.now c.requires.ready.there c.requires.ready.is_open ps told_is in
    let within = record_within _ _ _ _ log.holds c.args.place at in
    let first : length (payload_at c.args.place ps) ≡ length at.payload = ap (λ l. length (first_payload l)) at.is in
    absurd (omega (arith, within, first, (c.in_ok-head.ensures.head ps told_is).0, c.in-None.ensures.past))

pub returns-then-head-clause-loading : goal.returns-then-head-clause-loading
returns-then-head-clause-loading g c ps is =
    let head = c.in_ok-head.ensures.head ps is in
    let size = c.in_ok-head.ensures.size c.if-head.true in
    let len : length (payload_at c.args.place ps) ≡ c.in_ok-head.head.len - 1 + 1 = omega (arith, head.0, size.0) in
    loading_piece ps c.args.place c.args.account.now c.args.places.now.earlier.items c.args.places.now.last (c.requires.loading ps is) (c.requires.ready.place ps is) c.in-Some.next (c.in_ok-head.head.len - 1)
    c.add.new.self.earlier.items c.add.new.self.last (c.in-Some.ensures.place.0 ∙ ap (next_place c.args.place) head.0) (sym head.1 ∙ c.if-head.true) len c.in_ok-add.ensures

pub returns-clause-loading : goal.returns-clause-loading
returns-clause-loading g c ps is =
    let head = c.in_ok-head.ensures.head ps is in
    subst (λ n. IsLoading ps n c.load_command.new.account c.args.places.now.earlier.items c.args.places.now.last) (sym (c.in-Some.ensures.place.0 ∙ ap (next_place c.args.place) head.0))
    (c.in_ok-load_command.ensures.loading ps (ap told c.in_ok-head.ensures.looks.read.seen_same ∙ is))
