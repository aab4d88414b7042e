-- The children are seen as they were.
use Rattle.std.proofs.Common.{◌≡◌}
use Rattle.mt_children.proofs.running.ended_in.Given as goal

abbrev pub invariant-places : goal.invariant-places
invariant-places l = l.children.items ≡ l.fn.children.items
