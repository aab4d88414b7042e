-- the items so far are laid out
use Rattle.std.proofs.Common.{◌≡◌, ◌++◌, List, length, take}
use Rattle.mt_model.specs.Types.{Body, Item}
use Rattle.mt_cert.specs.Laying.{AreShared}
use Rattle.mt_cert.proofs.shares.add_items.Given as goal

abbrev pub invariant-loop-item : goal.invariant-loop-item
invariant-loop-item l = record {
  laid : (front : List (Item Body)) → AreShared front l.reducers l.fn.shares → AreShared (front ++ take l.item-index l.items) l.reducers l.shares;
  each : length l.shares.lists.items ≡ l.reducers;
}
