-- As many are kept as before.
use Rattle.std.proofs.Common.{◌≡◌}
use Rattle.mt_adapters.proofs.set.Set.take_clients.Given as goal

abbrev pub invariant-loop : goal.invariant-loop
invariant-loop l = l.places ≡ l.fn.places
