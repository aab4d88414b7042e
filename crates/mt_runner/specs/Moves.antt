-- What a turn does to a history, over one base.
use Rattle.std.specs.Prelude.{◌≡◌, ◌⊎◌, ℕ, false, true, [], ◌∷◌, Option, None, Some}
use Rattle.mt_disk.specs.CrashModel.{LeavesOnly}
use Rattle.mt_disk.specs.Files.{Files}
use Rattle.mt_types.specs.declared.command.Command.{Command}
use Rattle.mt_types.specs.declared.command.Command.TheVariants.{Close, Commit}
use Rattle.mt_types.specs.declared.job.Job.{Job}
use Rattle.mt_types.specs.declared.job.Task.{Task}
use Rattle.mt_types.specs.declared.task.Raw.{Raw}
use Rattle.mt_types.specs.declared.task.Run.{Run}
use Rattle.mt_model.specs.CommandStep.{replay}
use Rattle.mt_model.specs.Honest.{Bytes, IsHonest, OfFound}
use Rattle.mt_model.specs.JobSteps.{done_at}
use Rattle.mt_model.specs.State.{State, job_at}
use Rattle.mt_records.specs.Fate.{fate}
use Rattle.mt_jobtext.specs.JobTexts.{archive_of}
use Rattle.mt_opening.specs.Current.{EngineState, IsBetween, IsCurrent}
use Rattle.mt_opening.specs.History.{History}
use Rattle.mt_tasks.specs.Adding.{Added, IsFree, Lacked, MayHaveAdded}
use Rattle.mt_tasks.specs.Standing.{waiting}
use Rattle.mt_tasks.specs.declared.outcomes.OutcomeEnd.{OutcomeEnd}
use Rattle.mt_tasks.specs.declared.outcomes.OutcomeEnd.TheVariants as outcome
use Rattle.mt_runner.specs.Attends.{WorkSide, attempts_in}
use Rattle.mt_runner.specs.AtWork.{AreRight}
use Rattle.mt_runner.specs.Living.{LivesOn}
use Rattle.mt_runner.specs.Turning.{ClosesJob, CommitsTask}
use Rattle.mt_runner.specs.declared.turn.Turn.{Turn}
use Rattle.mt_runner.specs.declared.turn.Turn.TheVariants as turn

-- the work of a turn at this moment
abbrev pub IsDueAt : Bytes → ℕ → State Bytes → Command Bytes → Type 0
IsDueAt login now s (Commit job phase place f moment) = (moment ≡ now) × (waiting s ≡ None)
IsDueAt login now s (Close job cancelled archive moment) =
    (moment ≡ now) × (cancelled ≡ false) × (waiting s ≡ Some job) × OfFound (λ (j : Job Bytes). archive ≡ archive_of login (done_at moment false j)) (job_at s.jobs job)
IsDueAt login now s other = ⊥

-- a command that a turn may add at this moment
pub record Due (login : Bytes) (runs : Run → Bytes → Raw → Type 0) (now : ℕ) (s : State Bytes) (c : Command Bytes) : Type 0 where
  pub due : IsDueAt login now s c
  pub honest : IsHonest login runs (fate login) s c
  pub is_free : IsFree s c

-- nothing was added, and the engine is as it was
abbrev pub AddedNone : State Bytes → History → EngineState → Option Files → EngineState → History → Type 0
AddedNone base h e seen' e' k = (k ≡ h) × IsCurrent seen' e' base h

-- what was added to a history, by the answer
abbrev pub Moves : (State Bytes → Command Bytes → Type 0) → Turn → State Bytes → History → EngineState → Option Files → EngineState → History → Type 0
Moves Q (turn.Closed n) base h e seen' e' k = (a : Added Q base h e seen' e' k) × ClosesJob n (a.command ∷ [])
Moves Q (turn.Committed t) base h e seen' e' k = (a : Added Q base h e seen' e' k) × CommitsTask t (a.command ∷ [])
Moves Q turn.Idle base h e seen' e' k = AddedNone base h e seen' e' k
Moves Q turn.NotYet base h e seen' e' k = AddedNone base h e seen' e' k
Moves Q turn.SpawnFault base h e seen' e' k = AddedNone base h e seen' e' k
Moves Q turn.Full base h e seen' e' k = Lacked Q base h e seen' e' k
Moves Q turn.Disk base h e seen' e' k = ((k ≡ h) × (e'.log.closed ≡ false → IsCurrent seen' e' base h)) ⊎ ((e'.log.closed ≡ true) × MayHaveAdded Q base h e k)
Moves Q turn.Memory base h e seen' e' k = (k ≡ h) × (e'.log.closed ≡ false → IsCurrent seen' e' base h)

-- how a turn ends behind the end of a child that ran a task, and behind that of a job
abbrev pub end_of_task : Task → OutcomeEnd → Turn
end_of_task t outcome.Added = turn.Committed t
end_of_task t outcome.Full = turn.Full
end_of_task t outcome.Unread = turn.SpawnFault
end_of_task t outcome.Disk = turn.Disk
end_of_task t outcome.Memory = turn.Memory

abbrev pub end_of_job : ℕ → OutcomeEnd → Turn
end_of_job n outcome.Added = turn.Closed n
end_of_job n outcome.Full = turn.Full
end_of_job n outcome.Unread = turn.Memory
end_of_job n outcome.Disk = turn.Disk
end_of_job n outcome.Memory = turn.Memory

-- over each history that the engine stands for: what a turn adds, what a crash leaves, that the attempts stay right, and that it is a list
-- of steps of a life
module _ {D F : Type 0} (seen : D → Option Files) (moment : D → ℕ) (left_since : D → ℕ → Files → Type 0) (login : Bytes) (runs : Run → Bytes → Raw → Type 0) (may : F → Raw → Type 0) (now : ℕ) where
  pub record Moved (disk : D) (old : WorkSide F) (end : Turn) (disk' : D) (new : WorkSide F) (base : State Bytes) (h : History) : Type 0 where
    pub whole : History
    pub moves : Moves (Due login runs now) end base h old.engine (seen disk') new.engine whole
    pub leaves : LeavesOnly moment left_since disk disk' (IsBetween base h whole)
    pub right : new.engine.log.closed ≡ false → AreRight login runs may (replay base whole) (attempts_in new)
    pub lives : LivesOn login runs (fate login) end base h whole old.kept new.kept

  abbrev pub MovesOn : D → WorkSide F → Turn → D → WorkSide F → Type 0
  MovesOn disk old end disk' new =
      (base : State Bytes) (h : History) → IsCurrent (seen disk) old.engine base h → AreRight login runs may (replay base h) (attempts_in old) → Moved disk old end disk' new base h
