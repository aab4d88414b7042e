-- What was written, and the rest of the marker, are the whole.
use Rattle.std.proofs.Common.{◌≡◌, ◌++◌, drop}
use Rattle.mt_tree.specs.Walk.{cleared}
use Rattle.mt_tree.proofs.listing.start_of.Given as goal

abbrev pub invariant-loop-b : goal.invariant-loop-b
invariant-loop-b l = l.start.items ++ cleared (drop l.b-index l.marker) ≡ l.front ++ cleared l.marker
