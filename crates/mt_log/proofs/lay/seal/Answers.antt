-- The closed gate is written behind the records.
use Rattle.std.proofs.Common.{ℕ, List, ◌∷◌, [], arith}
use Rattle.mt_disk.specs.Files.{overwritten}
use Rattle.mt_disk.proofs.Moments.{begun, keeps, leaves_now}
use Rattle.mt_log.specs.Stage.{KeepsFront}
use Rattle.mt_log.proofs.Fronts.{front_torn}
use Rattle.mt_log.proofs.Laying.{next_within, sealed}
use Rattle.std.proofs.lemmas.Result.{on_ok_weaker}
use Rattle.mt_log.proofs.Others.{others_changed}
use Rattle.mt_log.proofs.Told.{before}
use Rattle.mt_log.proofs.lay.seal.Goals as goal

pub write_at-requires : goal.write_at-requires
write_at-requires g c files is =
    let run = c.requires.laying files is in
    next_within files c.args.file c.args.gate c.args.next run.0 run.1 run.2 c.requires.order

pub returns-clause-any_moment : goal.returns-clause-any_moment
returns-clause-any_moment g c files is =
    let d = g.D.Disk in
    let K = KeepsFront files c.args.file c.args.gate in
    let zero = begun d.moment d.left_since d.may_leave c.args.disk.now K K (g.met.D.Disk.only_now c.args.disk.now) (c.requires.front files is) (λ f k. k) in
    (keeps d.moment d.left_since d.may_leave _ _ _ K _ zero c.write_at.ensures.crash c.write_at.ensures.time (front_torn files c.args.file c.args.gate _ _ (omega (arith, c.requires.order)))).run

pub returns-clause-laid : goal.returns-clause-laid
returns-clause-laid g c old records laying = on_ok_weaker c.write_at.result (λ written now is.
    let d = g.D.Disk in
    let file = c.args.file in
    let gate = c.args.gate in
    let from = before _ _ file (λ bytes. overwritten bytes c.args.next (0 ∷ [])) now written is in
    let kept = leaves_now d.moment d.left_since d.may_leave _ _ (KeepsFront from.files file gate) (returns-clause-any_moment g c from.files from.was) (g.met.D.Disk.counts_now c.write_at.new.self) now (g.met.D.Disk.seen_is_left c.write_at.new.self now is) in
    sealed from.files file gate c.args.next old records (laying from.files from.was) now c.requires.order kept from.now) c.write_at.ensures.written

pub returns-clause-others : goal.returns-clause-others
returns-clause-others g c = on_ok_weaker c.write_at.result (λ written. others_changed c.args.file (λ (l : List ℕ). overwritten l c.args.next (0 ∷ [])) _ _ written) c.write_at.ensures.written
