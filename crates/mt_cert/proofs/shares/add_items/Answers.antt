-- An item more is laid out.
use Rattle.std.proofs.Common.{◌+◌, ◌++◌, ◌<◌, [], ◌∷◌, arith, length, take}
use Rattle.mt_cert.proofs.Layings.{shared_as, shared_more, take_on}
use Rattle.mt_cert.proofs.shares.add_items.Goals as goal

pub loop-item-preserved : goal.loop-item-preserved
loop-item-preserved c =
    let items = c.args.items.now in
    let k = c.loop-item.item-index in
    let item = c.item-item.result in
    let less : k < length items = omega arith in
    record {
      laid = λ front was.
          shared_as ((front ++ take k items) ++ item ∷ []) (front ++ take (k + 1) items) c.args.reducers c.add_item.new.shares (take_on front items k item less c.item-item.is)
          (shared_more (front ++ take k items) item c.args.reducers c.loop-item.shares c.add_item.new.shares c.requires.some (c.loop-item.invariant.laid front was) c.in_ok-add_item.ensures.lists c.in_ok-add_item.ensures.count);
      each = c.in_ok-add_item.ensures.each;
    }
