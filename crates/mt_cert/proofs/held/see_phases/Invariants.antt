use Rattle.std.proofs.Common.{take}
use Rattle.std.specs.List.{AllByRecursion}
use Rattle.mt_certline.specs.Laws.{IsOfTexts}
use Rattle.mt_cert.proofs.held.see_phases.Given as goal

abbrev pub invariant-loop-phase : goal.invariant-loop-phase
invariant-loop-phase l = AllByRecursion IsOfTexts (take l.phase-index l.phases)
