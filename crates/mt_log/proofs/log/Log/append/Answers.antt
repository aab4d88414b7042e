use Rattle.std.proofs.Common.{length, ◌∷◌, [], sym, ◌∙◌, subst}
use Rattle.std.proofs.lemmas.Option.{same_Some}
use Rattle.mt_disk.specs.CrashModel.{Only}
use Rattle.mt_disk.proofs.Moments.{begun}
use Rattle.mt_log.specs.LogState.{LogState, OthersStay, Stands, next_place}
use Rattle.mt_log.specs.LogImage.{IsLogOf, IsBeforeOrAfter}
use Rattle.mt_log.specs.Stage.{KeepsFront}
use Rattle.mt_log.proofs.Added.{front_is_before}
use Rattle.mt_log.proofs.Fronts.{front_same}
use Rattle.mt_log.proofs.Told.{some_of}
use Rattle.mt_log.proofs.Places.{end_of-holds}
use Rattle.mt_log.proofs.Standing.{stands_there, tells_log}
use Rattle.mt_log.specs.contracts.log.Log.{the_view}
use Rattle.mt_log.proofs.log.Log.append.Goals as goal

pub returns-then-not-has_room-clause-any_moment : goal.returns-then-not-has_room-clause-any_moment
returns-then-not-has_room-clause-any_moment g c opened files is =
    let d = g.D.Disk in
    let stands = c.requires.stands opened files is in
    let file = c.args.self.now.file in
    let gate = c.args.self.now.gate in
    let old = c.args.self.now.is_old in
    let more = c.args.payload.now ∷ [] in
    (begun d.moment d.left_since d.may_leave c.args.disk.now (IsBeforeOrAfter files more) (KeepsFront files file gate) (g.met.D.Disk.only_now c.args.disk.now)
    (λ f left. front_same files file gate old stands.1 f (stands.0 f left)) (front_is_before files file gate old stands.1 more)).run

pub add_record-requires-clause-stands : goal.add_record-requires-clause-stands
add_record-requires-clause-stands g c files is =
    let d = g.D.Disk in
    let stands = (subst (λ (s : LogState). Stands d.seen d.may_leave c.args.disk.now s) (sym c.self.view_is) c.requires.stands) c.if-self.false files is in
    (stands.0, (c.self.inside.is_old, stands.1))

pub returns-in-Ok-clause-stands : goal.returns-in-Ok-clause-stands
returns-in-Ok-clause-stands g c opened files is =
    let d = g.D.Disk in
    let was = some_of (d.seen c.args.disk.now) (d.seen c.add_record.new.disk) files c.in-Ok.ensures.told is in
    let stands = (subst (λ (s : LogState). Stands d.seen d.may_leave c.args.disk.now s) (sym c.self.view_is) c.requires.stands) c.if-self.false was.0 was.1 in
    let tells = c.in-Ok.ensures.added was.0 was.1 c.self.inside.is_old stands.1 in
    let same = same_Some _ _ (sym tells.seen_is ∙ is) in (
      subst (λ f. Only f (d.may_leave c.add_record.new.disk)) same tells.durable,
      subst (λ f. IsLogOf f c.self.inside.file (next_place c.self.inside.gate (length c.args.payload.now)) c.self.inside.is_old) same tells.log,
    )

pub returns-in-Ok-clause-at_end : goal.returns-in-Ok-clause-at_end
returns-in-Ok-clause-at_end g c ps is =
    let d = g.D.Disk in
    let stands = subst (λ (s : LogState). Stands d.seen d.may_leave c.args.disk.now s) (sym c.self.view_is) c.requires.stands in
    let log = tells_log d.seen c.args.disk.now (the_view c.self.inside) (stands_there d.seen d.may_leave c.args.disk.now (the_view c.self.inside) stands) c.if-self.false ps is in
    end_of-holds _ _ _ ps log.holds

pub returns-in-Ok-clause-others : goal.returns-in-Ok-clause-others
returns-in-Ok-clause-others g c =
    let d = g.D.Disk in
    subst (λ (s : LogState). OthersStay s.file (d.seen c.args.disk.now) (d.seen c.add_record.new.disk)) c.self.view_is c.in-Ok.ensures.others
