use Rattle.std.proofs.Common.{refl, subst, sym}
use Rattle.mt_checker.specs.Kept.{Keeps, Stands}
use Rattle.mt_checker.specs.declared.state.State.TheVariants as kept
use Rattle.mt_checker.proofs.KeptLines.{output_early}
use Rattle.mt_checker.proofs.following.list_output.Goals as goal

-- no name follows where a phase is open
pub returns-in-Phase : goal.returns-in-Phase
returns-in-Phase c = λ g same stands. subst (Keeps kept.Refused) (sym (output_early g c.in-Phase.field-0 c.args.path.now (subst (Stands g) c.in-Phase.is stands))) refl
