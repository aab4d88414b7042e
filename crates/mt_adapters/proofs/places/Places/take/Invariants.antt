-- Nothing was taken so far.
use Rattle.std.proofs.Common.{◌≡◌, length}
use Rattle.mt_adapters.proofs.places.Places.take.Given as goal

abbrev pub invariant-loop : goal.invariant-loop
invariant-loop l = length l.self-inside.kept.entries ≡ l.fn.self
