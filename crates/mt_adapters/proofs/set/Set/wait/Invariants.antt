-- As many are kept as before.
use Rattle.std.proofs.Common.{◌≡◌}
use Rattle.mt_adapters.proofs.set.Set.wait.Given as goal

abbrev pub invariant-loop-event : goal.invariant-loop-event
invariant-loop-event l = l.places ≡ l.fn.places
