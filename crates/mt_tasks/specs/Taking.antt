-- What the end of a task, and that of a job, do to a history.
use Rattle.std.specs.Prelude.{ℕ, Option}
use Rattle.mt_disk.specs.CrashModel.{LeavesOnly}
use Rattle.mt_disk.specs.Files.{Files}
use Rattle.mt_types.specs.declared.job.Task.{Task}
use Rattle.mt_types.specs.declared.task.Raw.{Raw}
use Rattle.mt_types.specs.declared.task.Run.{Run}
use Rattle.mt_model.specs.CommandStep.{replay}
use Rattle.mt_model.specs.Honest.{Bytes}
use Rattle.mt_model.specs.State.{State}
use Rattle.mt_spawn.specs.Children.{MayBe}
use Rattle.mt_spawn.specs.declared.task.Left.{Left}
use Rattle.mt_opening.specs.Current.{EngineState, IsBetween, IsCurrent}
use Rattle.mt_opening.specs.History.{History}
use Rattle.mt_tasks.specs.Adding.{Adds, IsCloseOf, IsCommitOf}
use Rattle.mt_tasks.specs.Right.{IsRight}
use Rattle.mt_tasks.specs.declared.outcomes.OutcomeEnd.{OutcomeEnd}

module _ {D : Type 0} (seen : D → Option Files) (moment : D → ℕ) (left_since : D → ℕ → Files → Type 0) where
  -- over each history that the engine stands for, and whatever child may have left this that is right there: what was added, and that
  -- a crash leaves a history between
  abbrev pub TakesOutcome : {F : Type 0} → Bytes → (Run → Bytes → Raw → Type 0) → (F → Raw → Type 0) → Task → ℕ → Left → Option Raw → OutcomeEnd → D → EngineState → D → EngineState → Type 0
  TakesOutcome {F} login runs may t now left told end disk engine disk' engine' =
      (base : State Bytes) (h : History) → IsCurrent (seen disk) engine base h → (f : F) → IsRight login runs may (replay base h) t f → MayBe (may f) left told
      → (k : History) × Adds (IsCommitOf login runs t now) end base h engine (seen disk') engine' k × LeavesOnly moment left_since disk disk' (IsBetween base h k)

  abbrev pub TakesEnd : Bytes → ℕ → ℕ → OutcomeEnd → D → EngineState → D → EngineState → Type 0
  TakesEnd login job now end disk engine disk' engine' =
      (base : State Bytes) (h : History) → IsCurrent (seen disk) engine base h
      → (k : History) × Adds (IsCloseOf login job now) end base h engine (seen disk') engine' k × LeavesOnly moment left_since disk disk' (IsBetween base h k)
