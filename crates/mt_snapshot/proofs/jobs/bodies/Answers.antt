use Rattle.std.proofs.Common.{◌≡◌, ◌++◌, ◌∷◌, []}
use Rattle.std.proofs.lemmas.Result.{err_from_is_err_and}
use Rattle.mt_codec.specs.Reading.{times}
use Rattle.mt_codec.proofs.Loops.{goes_on, ends, is_done}
use Rattle.mt_codec.specs.Readers.{body_at}
use Rattle.mt_snapshot.proofs.jobs.bodies.Goals as goal

pub returns-in_err-body : goal.returns-in_err-body
returns-in_err-body c =
    let p = err_from_is_err_and c.from_residual.result c.from_residual.ensures.1 in
    rw (p.1, p.2) (ends body_at c.in_err-body.field-0.0 c.body.new.cursor c.body.new.cursor c.loop.bodies c.args.n c.loop.counter c.loop.cursor (times body_at c.args.n c.args.cursor.now) c.loop-test.true c.in_err-body.ensures c.loop.invariant)

pub loop-preserved : goal.loop-preserved
loop-preserved c =
    let e : c.push.new.self ≡ c.loop.bodies ++ c.in_ok-body.field-0 ∷ [] = c.in_ok-push.ensures in
    rw e (goes_on body_at c.loop.bodies c.args.n c.loop.counter c.loop.cursor c.in_ok-body.field-0 c.body.new.cursor (times body_at c.args.n c.args.cursor.now) c.loop-test.true c.in_ok-body.ensures c.loop.invariant)

pub returns : goal.returns
returns c = is_done body_at c.loop.bodies c.args.n c.loop.counter c.loop.cursor (times body_at c.args.n c.args.cursor.now) c.loop-test.false c.loop.invariant
