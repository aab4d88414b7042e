-- Turns in the life of an account: the children that are kept are its attempts, and a turn is a list of its steps.
use Rattle.std.specs.Prelude.{◌≡◌, ◌⊎◌, ℕ, ⊤, Bool, false, true, List, [], ◌∷◌, ◌++◌, map, Option, None, Some}
use Rattle.std.specs.List.{AllByRecursion, Contains, filter_map, slice_get}
use Rattle.std.specs.Option.{option_and_then, option_map}
use Rattle.mt_base.specs.Lists.{IsPrefixOf}
use Rattle.mt_disk.specs.CrashModel.{LeavesOnly}
use Rattle.mt_disk.specs.Files.{Files}
use Rattle.mt_types.specs.declared.task.Fate.{Fate}
use Rattle.mt_types.specs.declared.task.Raw.{Raw}
use Rattle.mt_types.specs.declared.task.Run.{Run}
use Rattle.mt_model.specs.CommandStep.{replay}
use Rattle.mt_model.specs.Honest.{Bytes}
use Rattle.mt_model.specs.State.{State, first_state, job_at}
use Rattle.mt_lives.specs.World.{Attempt, End, Finish, Happens, IsAttempt, LifeStep, Lose, Start, Steps, World, attempt_at, state_of, task_of, ticket_of}
use Rattle.mt_opening.specs.Current.{EngineState, IsBetween, IsCurrent}
use Rattle.mt_opening.specs.History.{History}
use Rattle.mt_tasks.specs.Standing.{is_ready_in}
use Rattle.mt_runner.specs.Attempts.{number_of, task_in}
use Rattle.mt_runner.specs.Turning.{TurnImages}
use Rattle.mt_runner.specs.declared.runner.Started.{Started}
use Rattle.mt_runner.specs.declared.turn.Turn.{Turn}
use Rattle.mt_runner.specs.declared.turn.Turn.TheVariants as turn

-- ---- what a turn may do, by its answer

-- a child may have ended whose task is not committed
abbrev pub may_waste : Turn → Bool
may_waste turn.Full = true
may_waste turn.Disk = true
may_waste turn.Memory = true
may_waste _ = false

-- a child may be lost whose task is ready
abbrev pub may_lose : Turn → Bool
may_lose turn.SpawnFault = true
may_lose turn.Memory = true
may_lose _ = false

-- an attempt of this ticket lives, and its task is not ready
pub record IsStaleIn (w : World) (ticket : ℕ) : Type 0 where
  pub attempt : Attempt
  pub lives : Contains w.attempts attempt
  pub named : attempt.ticket ≡ ticket
  pub stale : is_ready_in (state_of w) attempt.task ≡ false

-- a step that it may take in a world: it starts and ends children, and closes jobs
abbrev pub MayTake : Turn → World → LifeStep → Type 0
MayTake end w (Start ticket task) = ⊤
MayTake end w (End ticket raw (Some moment)) = ⊤
MayTake end w (End ticket raw None) = may_waste end ≡ true
MayTake end w (Finish job archive moment) = ⊤
MayTake end w (Lose ticket) = IsStaleIn w ticket ⊎ (may_lose end ≡ true)
MayTake end w other = ⊥

module _ (login : Bytes) (gives : Run → Bytes → Raw → Type 0) (fate_of : Raw → Fate Bytes) where
  -- a child that is kept, as an attempt at its task as a state has it, where the state has its job and phase
  abbrev pub attempt_in : State Bytes → Started → Option Attempt
  attempt_in s k =
      option_and_then (λ job. option_map (attempt_at login gives fate_of (number_of k) k.task job) (slice_get job.document.phases k.task.phase)) (job_at s.jobs k.task.job)

  abbrev pub attempts_over : State Bytes → List Started → List Attempt
  attempts_over s kept = filter_map (attempt_in s) kept

  -- the children are these attempts, one each, in their order
  pub record AreAttempts (s : State Bytes) (kept : List Started) : Type 0 where
    pub tickets : map ticket_of (attempts_over s kept) ≡ map number_of kept
    pub tasks : map task_of (attempts_over s kept) ≡ map task_in kept
    pub each : AllByRecursion (IsAttempt login gives fate_of s) (attempts_over s kept)

  -- the world of a whole history, of which so much was told, and of these children
  abbrev pub world_of : ℕ → History → List Started → World
  world_of named history kept = record { history = history; named = named; attempts = attempts_over (replay first_state history) kept }

  -- steps of a life from one world to another, each of which a turn of this answer may take
  abbrev pub Leads : Turn → World → List LifeStep → World → Type 0
  Leads end w [] v = v ≡ w
  Leads end w (step ∷ steps) v = (u : World) × MayTake end w step × Happens login gives fate_of w step u × Leads end u steps v

  -- over each history that led to a base: such steps lead from the world of before, of these children, to that with what was added
  abbrev pub LivesOn : Turn → State Bytes → (h k : History) → (before after : List Started) → Type 0
  LivesOn end base h k before after =
      (earlier : History) → replay first_state earlier ≡ base → (named : ℕ)
      → (steps : List LifeStep) × Leads end (world_of named (earlier ++ h) before) steps (world_of named (earlier ++ k) after)

  -- children that are lost one after another, in each world
  abbrev pub LosesAll : (before after : List Started) → Type 0
  LosesAll before after =
      (history : History) (named : ℕ) → Steps login gives fate_of (world_of named history before) (map (λ k. Lose (number_of k)) before) (world_of named history after)

  -- From a base and a history on, a call is such steps. They lead to a history that each image has at its end, or nearly where the disk
  -- failed; and a crash at any moment of the call leaves one between.
  pub record LivesTo {D : Type 0} (seen : D → Option Files) (may_leave : D → Files → Type 0) (moment : D → ℕ) (left_since : D → ℕ → Files → Type 0)
      (disk disk' : D) (engine' : EngineState) (end : Turn) (base : State Bytes) (h : History) (before after : List Started) : Type 0 where
    pub whole : History
    pub lives : LivesOn end base h whole before after
    pub grew : IsPrefixOf h whole
    pub current : engine'.log.closed ≡ false → IsCurrent (seen disk') engine' base whole
    pub images : TurnImages end base whole (may_leave disk')
    pub leaves : LeavesOnly moment left_since disk disk' (IsBetween base h whole)
