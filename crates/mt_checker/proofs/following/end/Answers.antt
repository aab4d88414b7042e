use Rattle.std.proofs.Common.{refl, subst, sym}
use Rattle.mt_checker.specs.Kept.{Keeps, Stands}
use Rattle.mt_checker.specs.declared.state.State.TheVariants as kept
use Rattle.mt_checker.proofs.KeptLines.{end_early}
use Rattle.mt_checker.proofs.following.end.Goals as goal

-- the end is not yet where a phase is open
pub returns-in-Phase : goal.returns-in-Phase
returns-in-Phase c = λ g stands. subst (Keeps kept.Refused) (sym (end_early g c.in-Phase.field-0 (subst (Stands g) c.in-Phase.is stands))) refl
