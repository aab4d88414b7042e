use Rattle.std.proofs.Common.{◌≡◌, ◌++◌, ◌∷◌, []}
use Rattle.std.proofs.lemmas.Result.{err_from_is_err_and}
use Rattle.mt_codec.specs.Reading.{times}
use Rattle.mt_codec.proofs.Loops.{goes_on, ends, is_done}
use Rattle.mt_snapshot.specs.Readers.{item_at}
use Rattle.mt_snapshot.proofs.values.items.Goals as goal

pub returns-in_err-item : goal.returns-in_err-item
returns-in_err-item c =
    let p = err_from_is_err_and c.from_residual.result c.from_residual.ensures.1 in
    rw (p.1, p.2) (ends item_at c.in_err-item.field-0.0 c.item.new.cursor c.item.new.cursor c.loop.items c.args.n c.loop.counter c.loop.cursor (times item_at c.args.n c.args.cursor.now) c.loop-test.true c.in_err-item.ensures c.loop.invariant)

pub loop-preserved : goal.loop-preserved
loop-preserved c =
    let e : c.push.new.self ≡ c.loop.items ++ c.in_ok-item.field-0 ∷ [] = c.in_ok-push.ensures in
    rw e (goes_on item_at c.loop.items c.args.n c.loop.counter c.loop.cursor c.in_ok-item.field-0 c.item.new.cursor (times item_at c.args.n c.args.cursor.now) c.loop-test.true c.in_ok-item.ensures c.loop.invariant)

pub returns : goal.returns
returns c = is_done item_at c.loop.items c.args.n c.loop.counter c.loop.cursor (times item_at c.args.n c.args.cursor.now) c.loop-test.false c.loop.invariant
