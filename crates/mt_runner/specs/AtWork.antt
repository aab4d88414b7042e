-- What a runner and its spawner keep between two turns, and what a call over them and their engine asks and leaves.
use Rattle.std.specs.Prelude.{◌≡◌, ℕ, List, Option, None}
use Rattle.std.specs.List.{AllByRecursion}
use Rattle.mt_disk.specs.Files.{Files}
use Rattle.mt_types.specs.declared.task.Raw.{Raw}
use Rattle.mt_types.specs.declared.task.Run.{Run}
use Rattle.mt_model.specs.CommandStep.{replay}
use Rattle.mt_model.specs.Honest.{Bytes}
use Rattle.mt_model.specs.State.{State}
use Rattle.mt_spawn.specs.Children.{Seen}
use Rattle.mt_spawn.specs.declared.task.Left.{Left}
use Rattle.mt_opening.specs.Current.{EngineIsReady, EngineState, IsCurrent}
use Rattle.mt_opening.specs.History.{History}
use Rattle.mt_engine.specs.Ready.{EngineGoesOn}
use Rattle.mt_tasks.specs.Right.{IsRight}
use Rattle.mt_runner.specs.Attempts.{ArePaired, Attempt, RunnerState, attempts}

module _ {F : Type 0} where
  -- each may only end in what its run gives in this state
  abbrev pub AreRight : Bytes → (Run → Bytes → Raw → Type 0) → (F → Raw → Type 0) → State Bytes → List (Attempt F) → Type 0
  AreRight login runs may s xs = AllByRecursion (λ x. IsRight login runs may s x.task x.fate) xs

  -- over each history that the engine stands for, where it is open and the disk tells what it holds
  abbrev pub AreRightNow : Bytes → (Run → Bytes → Raw → Type 0) → (F → Raw → Type 0) → Option Files → EngineState → List (Attempt F) → Type 0
  AreRightNow login runs may files engine xs = (base : State Bytes) (h : History) → IsCurrent files engine base h → AreRight login runs may (replay base h) xs

  -- The live children are those that the runner keeps, nothing is held, and each attempt is right.
  pub record AtWork (may : F → Raw → Type 0) (runs : Run → Bytes → Raw → Type 0) (seen : Seen F) (held : Option Left) (runner : RunnerState) (files : Option Files) (engine : EngineState) : Type 0 where
    pub paired : ArePaired runner.kept seen.live
    pub free : held ≡ None
    pub right : AreRightNow runner.login runs may files engine (attempts runner.kept seen.live)

-- ---- a call over an engine and a runner

-- the engine is ready, and the runner, whose commands are of this login, is at work
pub record WorkIsReady {D P F Rule : Type 0} (seen : D → Option Files) (may_leave : D → Files → Type 0) (may : Rule → F → Raw → Type 0) (runs : Rule → Run → Bytes → Raw → Type 0) (children : P → Seen F) (held : P → Option Left) (rule_of : P → Rule) (disk : D) (spawner : P) (runner : RunnerState) (engine : EngineState) (login : Bytes) : Type 0 where
  pub ready : EngineIsReady seen may_leave disk engine
  pub at_work : AtWork (may (rule_of spawner)) (runs (rule_of spawner)) (children spawner) (held spawner) runner (seen disk) engine
  pub same_login : runner.login ≡ login

-- Behind the call the runner is at work again, with the login and the slots that it had; the engine goes on; and neither the clock nor the
-- spawner has another rule.
pub record WorkGoesOn {D P C F Rule Moments : Type 0} (seen : D → Option Files) (may_leave : D → Files → Type 0) (count : D → ℕ) (may : Rule → F → Raw → Type 0) (runs : Rule → Run → Bytes → Raw → Type 0) (children : P → Seen F) (held : P → Option Left) (rule_of : P → Rule) (moments_of : C → Moments) (disk disk' : D) (spawner spawner' : P) (clock clock' : C) (runner runner' : RunnerState) (engine engine' : EngineState) : Type 0 where
  pub at_work : AtWork (may (rule_of spawner')) (runs (rule_of spawner')) (children spawner') (held spawner') runner' (seen disk') engine'
  pub same : (runner'.login ≡ runner.login) × (runner'.slots ≡ runner.slots)
  pub goes_on : EngineGoesOn seen may_leave count disk disk' engine engine'
  pub rule : (moments_of clock' ≡ moments_of clock) × (rule_of spawner' ≡ rule_of spawner)
