-- A command more, or a payload that adds nothing.
use Rattle.std.proofs.Common.{◌≡◌, false, None, true≢false, Err, ap, sym, ◌∙◌, subst}
use Rattle.mt_log.specs.LogState.{told}
use Rattle.mt_model.specs.CommandStep.{allowed}
use Rattle.mt_opening.specs.Opening.{MayStand, NamesForeign}
use Rattle.mt_opening.specs.declared.opening.OpenEnd.TheVariants as OpenEnd
use Rattle.mt_opening.specs.declared.opening.Unreadable.TheVariants.{Foreign}
use Rattle.mt_account.proofs.Commands.{none_answered, size_of, some_answered}
use Rattle.mt_opening.proofs.Bodies.{fits_apart, free_apart, kind_apart}
use Rattle.mt_account.specs.Taken.{IsTaken}
use Rattle.mt_opening.proofs.Looks.{there_on}
use Rattle.mt_opening.proofs.Loading.{loading_command, no_command, no_place, stands_on}
use Rattle.mt_opening.proofs.load.load_command.Goals as goal

pub returns-in-Err-clause-foreign : goal.returns-in-Err-clause-foreign
returns-in-Err-clause-foreign g c why is ps told_is =
    let same : c.in-Err.end ≡ OpenEnd.Unreadable why = cc in
    let named = c.in-Err.ensures.none why (ap (λ e. Err e) same) in
    subst (λ u. NamesForeign ps u) (sym named.0)
    (no_command ps c.args.place c.args.account.now c.args.places.now.earlier.items c.args.places.now.last (c.requires.loading ps told_is) (c.requires.ready.place ps told_is) (c.requires.no_piece ps told_is) (named.1 ps told_is))

pub returns-then-not-is_complete-clause-foreign : goal.returns-then-not-is_complete-clause-foreign
returns-then-not-is_complete-clause-foreign g c why is ps told_is =
    let l = c.requires.loading ps told_is in
    let found = c.in-Ok.ensures.found in
    let f : c.is_complete.result ≡ false = c.if-not-is_complete.true in
    let same : Foreign c.args.place ≡ why = cc in
    let never = λ (m : MayStand l.before c.args.account.now c.in-Ok.command). true≢false (sym (c.is_complete.ensures.only l.before l.pieces m) ∙ f) in
    subst (λ u. NamesForeign ps u) same
    (no_place ps c.args.place c.args.account.now c.args.places.now.earlier.items c.args.places.now.last l (c.requires.ready.place ps told_is) found.0 c.in-Ok.command (found.2 ps told_is) (c.requires.no_piece ps told_is) found.1 never)

pub digest_command-requires-clause-ready : goal.digest_command-requires-clause-ready
digest_command-requires-clause-ready g c = record {
  there = there_on g.D.Disk.seen c.args.disk.now c.command_at.new.disk c.args.log.now c.in-Ok.ensures.looks.read.seen_same c.requires.ready.there;
  is_open = c.requires.ready.is_open;
}

pub digest_command-requires-clause-stored : goal.digest_command-requires-clause-stored
digest_command-requires-clause-stored g c ps is =
    let l = c.requires.loading ps (sym (ap told c.in-Ok.ensures.looks.read.seen_same) ∙ is) in
    stands_on ps c.args.place c.args.account.now c.args.places.now.earlier.items c.args.places.now.last l c.in-Ok.command
    (c.is_complete.ensures.stored l.before l.pieces c.if-not-is_complete.false)

pub change_if_allowed-requires-clause-spelled : goal.change_if_allowed-requires-clause-spelled
change_if_allowed-requires-clause-spelled g c = fits_apart c.in-Ok.command c.in_ok-digested.digested c.in_ok-digested.ensures.same c.in-Ok.ensures.found.1.fits

pub change_if_allowed-requires-clause-kind : goal.change_if_allowed-requires-clause-kind
change_if_allowed-requires-clause-kind g c =
    subst IsTaken (sym (kind_apart c.in-Ok.command c.in_ok-digested.digested c.in_ok-digested.ensures.same)) (c.is_complete.ensures.kind c.if-not-is_complete.false)

pub returns-in-Ok-2-clause-loading : goal.returns-in-Ok-2-clause-loading
returns-in-Ok-2-clause-loading g c ps is =
    let l = c.requires.loading ps is in
    let found = c.in-Ok.ensures.found in
    let same = c.in_ok-digested.ensures.same in
    let kind = c.is_complete.ensures.kind c.if-not-is_complete.false in
    let may : allowed size_of c.args.account.now c.in_ok-digested.digested ≡ None = none_answered _ (sym c.in-Ok-2.is ∙ c.in_ok-change_if_allowed.ensures.answer) in
    let was_may : allowed size_of c.args.account.now c.in-Ok.command ≡ None = sym (free_apart c.in-Ok.command c.in_ok-digested.digested same size_of c.args.account.now) ∙ may in
    loading_command ps c.args.place c.args.account.now c.args.places.now.earlier.items c.args.places.now.last l (c.requires.ready.place ps is) found.0 c.in-Ok.command c.in_ok-digested.digested c.change_if_allowed.new.self
    (found.2 ps is) (c.requires.no_piece ps is) found.1 kind (c.is_complete.ensures.few c.if-not-is_complete.false) was_may (c.is_complete.ensures.stored l.before l.pieces c.if-not-is_complete.false) same
    (c.in_ok-digested.ensures.digests ps (ap told c.in-Ok.ensures.looks.read.seen_same ∙ is)) (c.in_ok-change_if_allowed.ensures.ok may)

pub returns-in-Err-2-clause-foreign : goal.returns-in-Err-2-clause-foreign
returns-in-Err-2-clause-foreign g c why is ps told_is =
    let l = c.requires.loading ps told_is in
    let found = c.in-Ok.ensures.found in
    let same : Foreign c.args.place ≡ why = cc in
    let refused = some_answered (allowed size_of c.args.account.now c.in_ok-digested.digested) _ (sym c.in-Err-2.is ∙ c.in_ok-change_if_allowed.ensures.answer) in
    let never = λ (m : MayStand l.before c.args.account.now c.in-Ok.command). refused (free_apart c.in-Ok.command c.in_ok-digested.digested c.in_ok-digested.ensures.same size_of c.args.account.now ∙ m.allowed) in
    subst (λ u. NamesForeign ps u) same
    (no_place ps c.args.place c.args.account.now c.args.places.now.earlier.items c.args.places.now.last l (c.requires.ready.place ps told_is) found.0 c.in-Ok.command (found.2 ps told_is) (c.requires.no_piece ps told_is) found.1 never)
