-- As many are kept as before.
use Rattle.std.proofs.Common.{◌≡◌}
use Rattle.mt_adapters.proofs.places.Places.sweep.Given as goal

abbrev pub invariant-loop-number : goal.invariant-loop-number
invariant-loop-number l = l.self ≡ l.fn.self
