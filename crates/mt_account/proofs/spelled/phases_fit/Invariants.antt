-- Those so far fit.
use Rattle.std.proofs.Common.{true, take}
use Rattle.std.specs.List.{AllByRecursion}
use Rattle.mt_codec.specs.Spelling.{FitsPhase}
use Rattle.mt_account.proofs.spelled.phases_fit.Given as goal

abbrev pub invariant-loop-phase : goal.invariant-loop-phase
invariant-loop-phase l = AllByRecursion (FitsPhase true) (take l.phase-index l.phases)
