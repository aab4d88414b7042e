use Rattle.std.proofs.Common.{◌≡◌, ◌++◌, ◌∷◌, []}
use Rattle.std.proofs.lemmas.Result.{err_from_is_err_and}
use Rattle.mt_codec.specs.Reading.{times}
use Rattle.mt_codec.proofs.Loops.{goes_on, ends, is_done}
use Rattle.mt_codec.proofs.spelled.times.Goals as goal

pub returns-in_err-read : goal.returns-in_err-read
returns-in_err-read g c =
    let f = g.T.Spelled.read_at in
    let p = err_from_is_err_and c.from_residual.result c.from_residual.ensures.1 in
    rw (p.1, p.2) (ends f c.in_err-read.field-0.0 c.read.new.cursor c.read.new.cursor c.loop.items c.args.n c.loop.counter c.loop.cursor (times f c.args.n c.args.cursor.now) c.loop-test.true c.in_err-read.ensures c.loop.invariant)

pub loop-preserved : goal.loop-preserved
loop-preserved g c =
    let f = g.T.Spelled.read_at in
    let e : c.push.new.self ≡ c.loop.items ++ c.in_ok-read.field-0 ∷ [] = c.in_ok-push.ensures in
    rw e (goes_on f c.loop.items c.args.n c.loop.counter c.loop.cursor c.in_ok-read.field-0 c.read.new.cursor (times f c.args.n c.args.cursor.now) c.loop-test.true c.in_ok-read.ensures c.loop.invariant)

pub returns : goal.returns
returns g c = is_done g.T.Spelled.read_at c.loop.items c.args.n c.loop.counter c.loop.cursor (times g.T.Spelled.read_at c.args.n c.args.cursor.now) c.loop-test.false c.loop.invariant
