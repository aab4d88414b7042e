-- what held of the first phase holds of the one that is come to
use Rattle.std.proofs.Common.{◌≡◌, ◌-◌, length}
use Rattle.mt_certline.specs.Certificate.{Progress}
use Rattle.mt_checker.specs.Kept.{Reaches, kinds_of}
use Rattle.mt_checker.proofs.opening.open.Given as goal

abbrev pub invariant-phases : goal.invariant-phases
invariant-phases l = (g : Progress) → kinds_of g.phases ≡ l.kinds → Reaches g l.fn.from l.fn.reading → Reaches g l.phase l.reading

abbrev pub decreases-phases : goal.decreases-phases
decreases-phases l = length l.kinds - l.phase
