-- The life of an account as a machine: commands of clients, attempts at tasks and what becomes of them, crashes.
use Rattle.std.specs.Prelude.{◌≡◌, ℕ, ◌<◌, ◌≤◌, ◌==◌, Bool, true, false, not, ◌&&◌, All, List, [], ◌∷◌, ◌++◌, length, map, take, Option, Some, None}
use Rattle.std.specs.List.{Contains, filter, IsDistinct, list_any, slice_get}
use Rattle.mt_model.specs.Types.{Archive, Close, Command, Commit, Fate, Job, MOST_COMMANDS, Phase, Raw, Run, Task}
use Rattle.mt_types.specs.WellMade.{IsWellMadeFate}
use Rattle.mt_types.specs.declared.command.Command.TheVariants as command
use Rattle.mt_model.specs.CommandStep.{allowed, replay}
use Rattle.mt_model.specs.Feed.{feed}
use Rattle.mt_model.specs.Honest.{Bytes, Honest, IsStep, itself}
use Rattle.mt_model.specs.State.{State, first_state, job_at}
use Rattle.mt_model.specs.Tasks.{input_of, is_ready, is_task, run_over}

-- an attempt at a task: the child that was started for it, what it is run with and what it reads
pub record Attempt : Type 0 where
  pub ticket : ℕ
  pub task : Task
  pub run : Run
  pub input : Bytes

-- the commands so far, how many of them a client may have been told of, and the attempts that live
pub record World : Type 0 where
  pub history : List (Command Bytes)
  pub named : ℕ
  pub attempts : List Attempt

-- nothing has happened
abbrev pub first_world : World
first_world = record { history = []; named = 0; attempts = [] }

abbrev pub ticket_of : Attempt → ℕ
ticket_of a = a.ticket

abbrev pub task_of : Attempt → Task
task_of a = a.task

abbrev pub same_number : ℕ → ℕ → Bool
same_number m n = m == n

abbrev pub same_task : Task → Task → Bool
same_task a b = (a.job == b.job) && ((a.phase == b.phase) && (a.place == b.place))

-- the attempts of other tickets
abbrev pub others : ℕ → List Attempt → List Attempt
others t attempts = filter (λ a. not (t == a.ticket)) attempts

-- what may happen
pub data LifeStep : Type 0 where
  -- the command of a client is added
  Accept : Command Bytes → LifeStep
  -- a reply tells of the history
  Name : LifeStep
  -- a child of this ticket is started for a task
  Start : ℕ → Task → LifeStep
  -- it ends so, and its task is committed at this moment, or nothing is
  End : ℕ → Raw → Option ℕ → LifeStep
  -- a job whose tasks are committed is closed with this archive at this moment
  Finish : ℕ → Archive Bytes → ℕ → LifeStep
  -- a child is killed or lost
  Lose : ℕ → LifeStep
  -- a crash leaves so many commands, and no child
  Crash : ℕ → LifeStep

-- commits and the closing of finished jobs are not a client's
abbrev pub is_of_client : Command Bytes → Bool
is_of_client (Commit job phase place fate moment) = false
is_of_client (command.Finish job moment) = false
is_of_client (Close job cancelled archive moment) = cancelled
is_of_client other = true

-- the state of the history
abbrev pub state_of : World → State Bytes
state_of w = replay first_state w.history

-- with one command more, and these attempts
abbrev pub with_command : World → Command Bytes → List Attempt → World
with_command w c left = record w { history = w.history ++ c ∷ []; attempts = left }

-- what children may give where they are run so and read this, and how an outcome is judged
module _ (login : List ℕ) (gives : Run → Bytes → Raw → Type 0) (fate_of : Raw → Fate Bytes) where
  -- a child for this task of a job, by what the job reads now
  abbrev pub attempt_at : ℕ → Task → Job Bytes → Phase → Attempt
  attempt_at ticket task job p = record {
    ticket = ticket;
    task = task;
    run = run_over itself login job task.phase task.place p (feed job task.phase);
    input = input_of itself p.kind (feed job task.phase) task.place;
  }

  -- its task is one of a job, done or not, and it is run with and reads what that task does
  pub record IsAttempt (s : State Bytes) (a : Attempt) : Type 0 where
    pub job : Job Bytes
    pub phase : Phase
    pub found : job_at s.jobs a.task.job ≡ Some job
    pub has : slice_get job.document.phases a.task.phase ≡ Some phase
    pub task : is_task job a.task.phase a.task.place ≡ true
    pub is : a ≡ attempt_at a.ticket a.task job phase

  -- an attempt of this ticket lives, and may end so
  pub record MayEnd (w : World) (ticket : ℕ) (raw : Raw) : Type 0 where
    pub attempt : Attempt
    pub lives : Contains w.attempts attempt
    pub named : attempt.ticket ≡ ticket
    pub given : gives attempt.run attempt.input raw

  -- a task may be started: it is ready, and neither it nor the ticket has an attempt
  pub record MayStart (w : World) (ticket : ℕ) (task : Task) (a : Attempt) : Type 0 where
    pub job : Job Bytes
    pub phase : Phase
    pub found : job_at (state_of w).jobs task.job ≡ Some job
    pub has : slice_get job.document.phases task.phase ≡ Some phase
    pub ready : is_ready job task.phase task.place ≡ true
    pub no_ticket : list_any (same_number ticket) (map ticket_of w.attempts) ≡ false
    pub no_attempt : list_any (same_task task) (map task_of w.attempts) ≡ false
    pub is : a ≡ attempt_at ticket task job phase

  -- the commit of an attempt's task by what its child left
  abbrev pub commit_of : Attempt → Raw → ℕ → Command Bytes
  commit_of a raw moment = Commit a.task.job a.task.phase a.task.place (fate_of raw) moment

  -- a command fits behind the history, whoever it came of
  pub record Fits (s : State Bytes) (c : Command Bytes) : Type 0 where
    pub room : s.count < MOST_COMMANDS
    pub free : allowed length s c ≡ None

  -- one step leads from a world to another
  abbrev pub Happens : World → LifeStep → World → Type 0
  Happens w (Accept c) v = (is_of_client c ≡ true) × IsStep login gives fate_of (state_of w) c × (v ≡ with_command w c w.attempts)
  Happens w Name v = v ≡ record w { named = length w.history }
  Happens w (Start t task) v = (a : Attempt) × MayStart w t task a × (v ≡ record w { attempts = w.attempts ++ a ∷ [] })
  Happens w (End t raw (Some moment)) v = (m : MayEnd w t raw) × IsWellMadeFate (fate_of raw) × Fits (state_of w) (commit_of m.attempt raw moment)
      × (v ≡ with_command w (commit_of m.attempt raw moment) (others t w.attempts))
  Happens w (End t raw None) v = MayEnd w t raw × (v ≡ record w { attempts = others t w.attempts })
  Happens w (Finish job archive moment) v = Fits (state_of w) (Close job false archive moment) × (v ≡ with_command w (Close job false archive moment) w.attempts)
  Happens w (Lose t) v = v ≡ record w { attempts = others t w.attempts }
  Happens w (Crash k) v = (w.named ≤ k) × (k ≤ length w.history) × (v ≡ record w { history = take k w.history; attempts = [] })

  -- many, one behind the other
  abbrev pub Steps : World → List LifeStep → World → Type 0
  Steps w [] v = v ≡ w
  Steps w (step ∷ steps) v = (u : World) × Happens w step u × Steps u steps v

  -- the history is honest, what was told of stands in it, and each attempt is one at a task of its own
  pub record ValidWorld (w : World) : Type 0 where
    pub honest : Honest login gives fate_of w.history
    pub told : w.named ≤ length w.history
    pub tickets : IsDistinct same_number (map ticket_of w.attempts)
    pub tasks : IsDistinct same_task (map task_of w.attempts)
    pub attempts : All (IsAttempt (state_of w)) w.attempts

  -- every step keeps a world valid
  abbrev pub StepsKeepValid : Type 0
  StepsKeepValid = (w v : World) (step : LifeStep) → ValidWorld w → Happens w step v → ValidWorld v

  -- so does every list of them
  abbrev pub LivesStayValid : Type 0
  LivesStayValid = (steps : List LifeStep) (v : World) → Steps first_world steps v → ValidWorld v

  -- what was told of is never lost
  abbrev pub ToldStays : Type 0
  ToldStays = (w v : World) (steps : List LifeStep) → ValidWorld w → Steps w steps v → take w.named v.history ≡ take w.named w.history
