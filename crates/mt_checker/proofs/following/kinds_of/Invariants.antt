use Rattle.std.proofs.Common.{◌≡◌, take}
use Rattle.mt_checker.specs.Kept.{kinds_of}
use Rattle.mt_checker.proofs.following.kinds_of.Given as goal

abbrev pub invariant-loop-phase : goal.invariant-loop-phase
invariant-loop-phase l = l.kinds.items ≡ kinds_of (take l.phase-index l.phases)
