-- The copies so far are the front of the list.
use Rattle.std.proofs.Common.{◌≡◌, take}
use Rattle.mt_base.proofs.duplicate.copy_all.Given as goal

abbrev pub invariant-loop-item : goal.invariant-loop-item
invariant-loop-item g l = l.copies.items ≡ take l.item-index l.items
