-- As many are kept as before.
use Rattle.std.proofs.Common.{◌≡◌}
use Rattle.mt_adapters.proofs.tcp_door.first_served.Given as goal

abbrev pub invariant-loop : goal.invariant-loop
invariant-loop l = l.places ≡ l.fn.places
