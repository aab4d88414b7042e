-- As many bodies so far as are counted.
use Rattle.std.proofs.Common.{◌≡◌, length}
use Rattle.jobs_rows.proofs.taken.bodies.Given as goal

abbrev pub invariant-loop-k : goal.invariant-loop-k
invariant-loop-k l = length l.bodies.items ≡ l._k
