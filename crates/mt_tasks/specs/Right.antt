-- What a child may end in that runs a task.
use Rattle.std.specs.Prelude.{◌≡◌, ℕ, true, List, Option, Some}
use Rattle.std.specs.List.{slice_get}
use Rattle.mt_disk.specs.Files.{Files}
use Rattle.mt_types.specs.declared.document.Phase.{Phase}
use Rattle.mt_types.specs.declared.job.Job.{Job}
use Rattle.mt_types.specs.declared.job.Task.{Task}
use Rattle.mt_types.specs.declared.task.Raw.{Raw}
use Rattle.mt_types.specs.declared.task.Run.{Run}
use Rattle.mt_model.specs.CommandStep.{replay}
use Rattle.mt_model.specs.Feed.{feed}
use Rattle.mt_model.specs.Honest.{Bytes, MayGive}
use Rattle.mt_model.specs.State.{State, job_at}
use Rattle.mt_model.specs.Tasks.{is_task}
use Rattle.mt_records.specs.Fate.{fate}
use Rattle.mt_opening.specs.Current.{EngineState, IsCurrent}
use Rattle.mt_opening.specs.History.{History}

-- a child that runs this task may only end in what its run gives in this state
pub record IsRight {F : Type 0} (login : Bytes) (runs : Run → Bytes → Raw → Type 0) (may : F → Raw → Type 0) (s : State Bytes) (t : Task) (f : F) : Type 0 where
  pub job : Job Bytes
  pub p : Phase
  pub found : job_at s.jobs t.job ≡ Some job
  pub has : slice_get job.document.phases t.phase ≡ Some p
  pub task : is_task job t.phase t.place ≡ true
  pub given : (raw : Raw) → may f raw → MayGive login runs (fate login) job t.phase t.place p (feed job t.phase) raw

-- it is so over each history that the engine stands for on a disk that tells what it holds
abbrev pub IsRightNow : {F : Type 0} → Bytes → (Run → Bytes → Raw → Type 0) → (F → Raw → Type 0) → Option Files → EngineState → Task → F → Type 0
IsRightNow login runs may files engine t f = (base : State Bytes) (h : History) → IsCurrent files engine base h → IsRight login runs may (replay base h) t f
