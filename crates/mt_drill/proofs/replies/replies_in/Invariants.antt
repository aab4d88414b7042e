-- The replies so far, and those of the bytes that are left.
use Rattle.std.proofs.Common.{◌≡◌, ◌+◌, ◌≤◌, length}
use Rattle.mt_drill.specs.DrillLine.{replies_in}
use Rattle.mt_drill.proofs.replies.replies_in.Given as goal

abbrev pub invariant-places : goal.invariant-places
invariant-places l = record {
  sum : l.count + replies_in l.rest ≡ replies_in l.fn.bytes;
  few : l.count + length l.rest ≤ length l.fn.bytes;
}

abbrev pub decreases-places : goal.decreases-places
decreases-places l = length l.rest
