-- Both pieces begin behind the gate.
use Rattle.mt_disk.proofs.Moments.{begun, keeps}
use Rattle.mt_log.specs.Stage.{KeepsFront}
use Rattle.mt_log.proofs.Fronts.{front_torn}
use Rattle.std.proofs.Common.{arith}
use Rattle.mt_log.proofs.lay.write_behind.Goals as goal

pub returns-in_err-write_at-clause-any_moment : goal.returns-in_err-write_at-clause-any_moment
returns-in_err-write_at-clause-any_moment g c files is =
    let d = g.D.Disk in
    let K = KeepsFront files c.args.file c.args.gate in
    let behind = front_torn files c.args.file c.args.gate in
    let zero = begun d.moment d.left_since d.may_leave c.args.disk.now K K (g.met.D.Disk.only_now c.args.disk.now) (c.requires.front files is) (λ f k. k) in
    (keeps d.moment d.left_since d.may_leave _ _ _ K _ zero c.write_at.ensures.crash c.write_at.ensures.time (behind _ _ c.requires.behind)).run

pub returns-in_err-write_at-2-clause-any_moment : goal.returns-in_err-write_at-2-clause-any_moment
returns-in_err-write_at-2-clause-any_moment g c files is =
    let d = g.D.Disk in
    let K = KeepsFront files c.args.file c.args.gate in
    let behind = front_torn files c.args.file c.args.gate in
    let zero = begun d.moment d.left_since d.may_leave c.args.disk.now K K (g.met.D.Disk.only_now c.args.disk.now) (c.requires.front files is) (λ f k. k) in
    let one = keeps d.moment d.left_since d.may_leave _ _ _ K _ zero c.write_at.ensures.crash c.write_at.ensures.time (behind _ _ c.requires.behind) in
    (keeps d.moment d.left_since d.may_leave _ _ _ K _ one c.write_at-2.ensures.crash c.write_at-2.ensures.time (behind _ _ (omega (arith, c.requires.behind)))).run

pub returns-clause-any_moment : goal.returns-clause-any_moment
returns-clause-any_moment g c files is =
    let d = g.D.Disk in
    let K = KeepsFront files c.args.file c.args.gate in
    let behind = front_torn files c.args.file c.args.gate in
    let zero = begun d.moment d.left_since d.may_leave c.args.disk.now K K (g.met.D.Disk.only_now c.args.disk.now) (c.requires.front files is) (λ f k. k) in
    let one = keeps d.moment d.left_since d.may_leave _ _ _ K _ zero c.write_at.ensures.crash c.write_at.ensures.time (behind _ _ c.requires.behind) in
    (keeps d.moment d.left_since d.may_leave _ _ _ K _ one c.write_at-2.ensures.crash c.write_at-2.ensures.time (behind _ _ (omega (arith, c.requires.behind)))).run
