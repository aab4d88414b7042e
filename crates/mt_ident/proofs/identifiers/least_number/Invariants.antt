-- What lies below `low` stands before the marker, and what lies from `high` on doesn't.
use Rattle.std.proofs.Common.{◌-◌}
use Rattle.mt_ident.proofs.IdentifierOrder.{Narrowed}
use Rattle.mt_ident.proofs.identifiers.least_number.Given as goal

abbrev pub invariant-loop-low : goal.invariant-loop-low
invariant-loop-low l = Narrowed l.kind l.marker l.low l.high

abbrev pub decreases-loop-low : goal.decreases-loop-low
decreases-loop-low l = l.high - l.low
