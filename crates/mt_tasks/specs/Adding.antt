-- The command that is due, whether it has room, and what became of it.
use Rattle.std.specs.Prelude.{◌≡◌, ◌≢◌, ◌⊎◌, ℕ, ◌+◌, ◌<◌, ◌≤◌, Bool, false, true, List, [], ◌∷◌, ◌++◌, length, None, Option}
use Rattle.mt_disk.specs.Files.{Files}
use Rattle.mt_types.specs.declared.body.Body.{Body}
use Rattle.mt_types.specs.declared.command.Archive.{Archive}
use Rattle.mt_types.specs.declared.command.Command.{Command}
use Rattle.mt_types.specs.declared.command.Command.TheVariants.{Close, Commit}
use Rattle.mt_types.specs.declared.job.Job.{Job}
use Rattle.mt_types.specs.declared.job.Task.{Task}
use Rattle.mt_types.specs.declared.limits.TheConstants.{MOST_COMMANDS}
use Rattle.mt_types.specs.declared.task.Fate.{Fate}
use Rattle.mt_types.specs.declared.task.Raw.{Raw}
use Rattle.mt_types.specs.declared.task.Run.{Run}
use Rattle.mt_types.specs.WellMade.{IsWellMade}
use Rattle.mt_model.specs.CommandStep.{allowed, replay, step}
use Rattle.mt_model.specs.Honest.{Bytes, IsHonest, OfFound}
use Rattle.mt_model.specs.JobSteps.{done_at}
use Rattle.mt_model.specs.State.{State, job_at}
use Rattle.mt_records.specs.Fate.{fate}
use Rattle.mt_jobtext.specs.JobTexts.{archive_of}
use Rattle.mt_body.specs.Growth.{command_growth}
use Rattle.mt_opening.specs.Current.{EngineState, IsCurrent}
use Rattle.mt_opening.specs.History.{History}
use Rattle.mt_tasks.specs.declared.outcomes.OutcomeEnd.{OutcomeEnd}
use Rattle.mt_tasks.specs.declared.outcomes.OutcomeEnd.TheVariants as outcome

-- it is well made, and not refused
pub record IsFree (s : State Bytes) (c : Command Bytes) : Type 0 where
  pub made : IsWellMade c
  pub free : allowed length s c ≡ None

-- in a state and a log of so many bytes, under a limit: it has room, or it has not
pub record HasRoom (s : State Bytes) (used limit : ℕ) (c : Command Bytes) : Type 0 where
  pub few : s.count < MOST_COMMANDS
  pub fits : used + command_growth c ≤ limit

abbrev pub LacksRoom : State Bytes → (used limit : ℕ) → Command Bytes → Type 0
LacksRoom s used limit c = (MOST_COMMANDS ≤ s.count) ⊎ (limit < used + command_growth c)

-- the commit of a task, of a fate that came of a child
pub record IsCommitOf (login : Bytes) (runs : Run → Bytes → Raw → Type 0) (t : Task) (now : ℕ) (s : State Bytes) (c : Command Bytes) : Type 0 where
  pub of_fate : Fate Bytes
  pub is : c ≡ Commit t.job t.phase t.place of_fate now
  pub honest : IsHonest login runs (fate login) s (Commit t.job t.phase t.place of_fate now)
  pub is_free : IsFree s c

-- the end of a job, with its texts as they are then
pub record IsCloseOf (login : Bytes) (n now : ℕ) (s : State Bytes) (c : Command Bytes) : Type 0 where
  pub archive : Archive Bytes
  pub is : c ≡ Close n false archive now
  pub texts : OfFound (λ (j : Job Bytes). archive ≡ archive_of login (done_at now false j)) (job_at s.jobs n)
  pub is_free : IsFree s c

-- a command that is such a one was added
pub record Added (Q : State Bytes → Command Bytes → Type 0) (base : State Bytes) (h : History) (e : EngineState) (seen' : Option Files) (e' : EngineState) (k : History) : Type 0 where
  pub command : Command Bytes
  pub is : Q (replay base h) command
  pub room : HasRoom (replay base h) (e.log.gate + 1) e.log.limit command
  pub history : k ≡ h ++ command ∷ []
  pub current : IsCurrent seen' e' base k
  pub grew : e'.log.gate ≡ e.log.gate + command_growth command

-- such a one is due, and has no room
pub record Lacked (Q : State Bytes → Command Bytes → Type 0) (base : State Bytes) (h : History) (e : EngineState) (seen' : Option Files) (e' : EngineState) (k : History) : Type 0 where
  pub command : Command Bytes
  pub is : Q (replay base h) command
  pub lacks : LacksRoom (replay base h) (e.log.gate + 1) e.log.limit command
  pub history : k ≡ h
  pub current : IsCurrent seen' e' base h

-- such a one, with room, is the last of these commands
pub record MayHaveAdded (Q : State Bytes → Command Bytes → Type 0) (base : State Bytes) (h : History) (e : EngineState) (k : History) : Type 0 where
  pub command : Command Bytes
  pub is : Q (replay base h) command
  pub room : HasRoom (replay base h) (e.log.gate + 1) e.log.limit command
  pub history : k ≡ h ++ command ∷ []

-- what was added to a history, by the answer
abbrev pub Adds : (State Bytes → Command Bytes → Type 0) → OutcomeEnd → State Bytes → History → EngineState → Option Files → EngineState → History → Type 0
Adds Q outcome.Added base h e seen' e' k = Added Q base h e seen' e' k
Adds Q outcome.Full base h e seen' e' k = Lacked Q base h e seen' e' k
Adds Q outcome.Unread base h e seen' e' k = (k ≡ h) × IsCurrent seen' e' base h
Adds Q outcome.Disk base h e seen' e' k = (e'.log.closed ≡ true) × ((k ≡ h) ⊎ MayHaveAdded Q base h e k)
Adds Q outcome.Memory base h e seen' e' k = (k ≡ h) × (e'.log.closed ≡ false → IsCurrent seen' e' base h)

-- what the engine is then, over any disk
abbrev pub LeavesEngine : OutcomeEnd → (State Body → Type 0) → EngineState → EngineState → Type 0
LeavesEngine outcome.Added Became e e' = Became e'.state × (e'.log.closed ≡ false)
LeavesEngine outcome.Full Became e e' = e' ≡ e
LeavesEngine outcome.Unread Became e e' = e' ≡ e
LeavesEngine outcome.Disk Became e e' = e'.log.closed ≡ true
LeavesEngine outcome.Memory Became e e' = (e' ≡ e) ⊎ (e'.log.closed ≡ true)

-- the state once a task is committed so, or a job ended so
abbrev pub Committed : Task → ℕ → State Body → State Body → Type 0
Committed t now s s' = (f : Fate Body) × (s' ≡ step s (Commit t.job t.phase t.place f now))

abbrev pub Ended : ℕ → ℕ → State Body → State Body → Type 0
Ended n now s s' = (a : Archive Body) × (s' ≡ step s (Close n false a now))
