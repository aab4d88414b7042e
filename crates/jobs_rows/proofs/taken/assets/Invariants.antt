-- A list of bodies for each phase so far.
use Rattle.std.proofs.Common.{◌≡◌, length, map, take}
use Rattle.jobs_rows.proofs.taken.assets.Given as goal

abbrev pub invariant-loop-phase : goal.invariant-loop-phase
invariant-loop-phase l = map length l.all.items ≡ map (λ p. length p.assets) (take l.phase-index l.phases)
