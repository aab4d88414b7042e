use Rattle.std.proofs.Common.{◌≡◌, ◌++◌, ◌∷◌, [], arith}
use Rattle.std.proofs.lemmas.Result.{err_from_is_err_and}
use Rattle.mt_snapshot.specs.Readers.{assets_at}
use Rattle.mt_snapshot.proofs.Loops.{assets_done, assets_end, assets_go_on}
use Rattle.mt_snapshot.proofs.jobs.assets.Goals as goal

pub returns-in_err-bodies : goal.returns-in_err-bodies
returns-in_err-bodies c =
    let p = err_from_is_err_and c.from_residual.result c.from_residual.ensures.1 in
    let read = rw c.len.ensures at c.in_err-bodies.ensures in
    rw (p.1, p.2) (assets_end c.in_err-bodies.field-0.0 c.bodies.new.cursor c.bodies.new.cursor c.loop-phase.assets c.args.phases.now c.loop-phase.phase-index c.phase-item.result c.loop-phase.cursor (assets_at c.args.phases.now c.args.cursor.now) (omega arith) c.phase-item.is read c.loop-phase.invariant)

pub loop-phase-preserved : goal.loop-phase-preserved
loop-phase-preserved c =
    let e : c.push.new.self ≡ c.loop-phase.assets ++ c.in_ok-bodies.field-0 ∷ [] = c.in_ok-push.ensures in
    let read = rw c.len.ensures at c.in_ok-bodies.ensures in
    rw e (assets_go_on c.loop-phase.assets c.args.phases.now c.loop-phase.phase-index c.phase-item.result c.loop-phase.cursor c.in_ok-bodies.field-0 c.bodies.new.cursor (assets_at c.args.phases.now c.args.cursor.now) (omega arith) c.phase-item.is read c.loop-phase.invariant)

pub returns : goal.returns
returns c = assets_done c.loop-phase.assets c.args.phases.now c.loop-phase.phase-index c.loop-phase.cursor (assets_at c.args.phases.now c.args.cursor.now) (omega arith) c.loop-phase.invariant
