-- what the tasks so far gave is laid out
use Rattle.std.proofs.Common.{◌≡◌, ◌++◌, List, length, drop}
use Rattle.mt_model.specs.Types.{Body, Item}
use Rattle.mt_model.specs.Feed.{entries_of, items_in}
use Rattle.mt_cert.specs.Laying.{AreShared}
use Rattle.mt_cert.proofs.shares.add_given.Given as goal

abbrev pub invariant-loop-entry : goal.invariant-loop-entry
invariant-loop-entry l = record {
  laid : (front : List (Item Body)) → AreShared front l.reducers l.fn.shares
      → (so_far : List (Item Body)) × (so_far ++ items_in (entries_of l.phase (drop l.entry-index l.trace)) ≡ front ++ items_in (entries_of l.phase l.trace)) × AreShared so_far l.reducers l.shares;
  each : length l.shares.lists.items ≡ l.reducers;
}
