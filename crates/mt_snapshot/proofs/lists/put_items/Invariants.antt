use Rattle.std.proofs.Common.{◌≡◌, ◌++◌, map, take}
use Rattle.std.specs.List.{flat_map}
use Rattle.mt_types.specs.Values.{item_with}
use Rattle.mt_snapshot.specs.Records.{item_spelling}
use Rattle.mt_snapshot.specs.Values.{moved}
use Rattle.mt_snapshot.proofs.lists.put_items.Given as goal

abbrev pub invariant-loop-item : goal.invariant-loop-item
invariant-loop-item g l = l.out.items ≡ l.fn.out.items ++ flat_map item_spelling (map (item_with (moved (g.M.Moves.place l.moves))) (take l.item-index l.items))
