-- The commit of a fate that a child may have left.
use Rattle.std.proofs.Common.{◌≡◌, ℕ, Option, Some, refl, sym, ap, ◌∙◌, subst}
use Rattle.mt_model.specs.Honest.{Bytes, CameOfChild, OfFound}
use Rattle.mt_model.specs.State.{State}
use Rattle.mt_types.specs.declared.command.Command.{Command}
use Rattle.mt_types.specs.declared.job.Job.{Job}
use Rattle.mt_types.specs.declared.job.Task.{Task}
use Rattle.mt_types.specs.declared.task.Fate.{Fate}
use Rattle.mt_types.specs.declared.task.Raw.{Raw}
use Rattle.mt_types.specs.declared.task.Run.{Run}
use Rattle.mt_records.specs.Fate.{fate}
use Rattle.mt_records.specs.declared.range.Range.{Range}
use Rattle.mt_spawn.specs.Children.{MayBe}
use Rattle.mt_spawn.specs.declared.task.Left.{Left}
use Rattle.mt_tasks.specs.Adding.{IsCommitOf}
use Rattle.mt_tasks.specs.Fates.{IsJudged}
use Rattle.mt_tasks.specs.Over.{IsCommitOver}
use Rattle.mt_tasks.specs.Right.{IsRight}
use Rattle.mt_tasks.proofs.Came.{came_of}

-- over bytes that its ranges may have, it came of a child that is right there
pub right_commit : {F : Type 0} (login : Bytes) (runs : Run → Bytes → Raw → Type 0) (may : F → Raw → Type 0) (left : Left) (told : Option Raw) (f : Fate Range) (t : Task) (now : ℕ) (s : State Bytes) (child : F) (c : Command Bytes)
    → IsJudged login left told f → IsRight login runs may s t child → MayBe (may child) left told → IsCommitOver told f t now s c → IsCommitOf login runs t now s c
right_commit login runs may left told f t now s child c judged right maybe over =
    let came = came_of login left told (may child) f over.of_fate maybe judged.came over.over in
    record {
      of_fate = over.of_fate;
      is = over.is;
      honest = subst (λ (o : Option (Job Bytes)). OfFound (λ j. CameOfChild login runs (fate login) j t.phase t.place over.of_fate) o) (sym right.found)
          (record { of_phase = right.p; raw = came.0; has = right.has; given = right.given came.0 came.1; judged = came.2 });
      is_free = over.is_free;
    }
