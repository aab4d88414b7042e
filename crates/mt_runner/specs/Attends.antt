-- What a turn does to children, slots and the state, over any disk and any spawner.
use Rattle.std.specs.Prelude.{◌≡◌, ◌⊎◌, ℕ, ◌+◌, ◌<◌, ◌≤◌, min, Bool, true, false, List, [], ◌∷◌, ◌++◌, length, map, filter, eqb, Option, None, Some, is_some}
use Rattle.std.specs.List.{AllByRecursion, AllZip, IsDistinct}
use Rattle.mt_base.specs.Counts.{NeverFell, Rose, RoseBy}
use Rattle.mt_types.specs.declared.body.Body.{Body}
use Rattle.mt_types.specs.declared.job.Task.{Task}
use Rattle.mt_model.specs.State.{State}
use Rattle.mt_spawn.specs.Children.{SameCounts, Seen}
use Rattle.mt_sched.specs.Plan.{first_but, is_same_task}
use Rattle.mt_opening.specs.Current.{EngineState}
use Rattle.mt_tasks.specs.Adding as adding
use Rattle.mt_tasks.specs.Standing.{is_ready_in, ready_tasks, waiting}
use Rattle.mt_runner.specs.Attempts.{AreFirsts, AreOf, Attempt, HasWaited, attempts, the_task, the_ticket}
use Rattle.mt_runner.specs.declared.runner.Started.{Started}
use Rattle.mt_runner.specs.declared.turn.Turn.{Turn}
use Rattle.mt_runner.specs.declared.turn.Turn.TheVariants as turn

-- the engine is as it was, or closed
abbrev pub SameOrClosed : EngineState → EngineState → Type 0
SameOrClosed e e' = (e' ≡ e) ⊎ (e'.log.closed ≡ true)

-- a runner at one moment: the children that it keeps, those that its spawner knows, the engine, and how often its disk failed
pub record WorkSide (F : Type 0) : Type 0 where
  pub kept : List Started
  pub seen : Seen F
  pub engine : EngineState
  pub disk_faults : ℕ

module _ {F : Type 0} where
  abbrev pub work_side : List Started → Seen F → EngineState → ℕ → WorkSide F
  work_side kept seen engine disk_faults = record { kept = kept; seen = seen; engine = engine; disk_faults = disk_faults }

  abbrev pub attempts_in : WorkSide F → List (Attempt F)
  attempts_in w = attempts w.kept w.seen.live

  abbrev pub is_ready_now : State Body → Attempt F → Bool
  is_ready_now s x = is_ready_in s x.task

  -- no two have one ticket or one task
  pub record AreApart (xs : List (Attempt F)) : Type 0 where
    pub tickets : IsDistinct eqb (map the_ticket xs)
    pub tasks : IsDistinct is_same_task (map the_task xs)

  -- the attempts once slots were filled
  pub record Tried (slots : ℕ) (s : State Body) (xs ys : List (Attempt F)) : Type 0 where
    pub started : List (Attempt F)
    pub firsts : AreFirsts (ready_tasks s) (map the_task xs) started
    pub are : ys ≡ xs ++ started
    pub all_ready : AllByRecursion (λ y. is_ready_now s y ≡ true) ys
    pub apart : AreApart ys
    pub few : length ys ≤ slots

  -- one of them is gone, and the others live
  pub record Gone (ys : List (Attempt F)) (x : Attempt F) (old new : WorkSide F) : Type 0 where
    pub front : List (Attempt F)
    pub back : List (Attempt F)
    pub were : ys ≡ front ++ x ∷ back
    pub are : AreOf new.kept new.seen.live (front ++ back)
    pub waits : new.seen.waits ≡ old.seen.waits

  -- as many live as the lesser of slots and ready tasks
  abbrev pub AreMany : ℕ → State Body → List (Attempt F) → Type 0
  AreMany slots s ys = length ys ≡ min slots (length (ready_tasks s))

  -- The child of this task has ended; as many lived as the lesser of slots and ready tasks, and company rose by that.
  pub record Ended (slots : ℕ) (s : State Body) (ys : List (Attempt F)) (t : Task) (old new : WorkSide F) : Type 0 where
    pub x : Attempt F
    pub its : x.task ≡ t
    pub gone : Gone ys x old new
    pub many : AreMany slots s ys
    pub company : new.seen.company ≡ min 18446744073709551615 (old.seen.company + length ys)

  -- one is gone without an end: a wait failed for it, or found no memory for it
  pub record Lost (ys : List (Attempt F)) (old new : WorkSide F) : Type 0 where
    pub x : Attempt F
    pub gone : Gone ys x old new
    pub company : new.seen.company ≡ old.seen.company

  -- all live, and no child ended
  pub record Live (ys : List (Attempt F)) (old new : WorkSide F) : Type 0 where
    pub are : AreOf new.kept new.seen.live ys
    pub counts : SameCounts old.seen new.seen

  -- they were waited for, and all live
  pub record Unheard (ys : List (Attempt F)) (old new : WorkSide F) : Type 0 where
    pub some : 0 < length ys
    pub live : Live ys old new

  -- all live, and the next start failed
  pub record Stopped (s : State Body) (ys : List (Attempt F)) (old new : WorkSide F) : Type 0 where
    pub next : is_some (first_but (map the_task ys) (ready_tasks s)) ≡ true
    pub live : Live ys old new

  -- all live, and each was waited for in vain
  pub record Waiting (slots : ℕ) (s : State Body) (ys : List (Attempt F)) (old new : WorkSide F) : Type 0 where
    pub some : 0 < length ys
    pub many : AreMany slots s ys
    pub zs : List (Attempt F)
    pub waited : AllZip HasWaited ys zs
    pub are : AreOf new.kept new.seen.live zs
    pub waits : RoseBy 1 old.seen.waits new.seen.waits
    pub company : new.seen.company ≡ old.seen.company

  -- no task is ready, and no child lives
  pub record NothingReady (s : State Body) (old new : WorkSide F) : Type 0 where
    pub none : ready_tasks s ≡ []
    pub live : Live [] old new

  abbrev pub Took : ℕ → State Body → List (Attempt F) → WorkSide F → WorkSide F → Type 0
  Took slots s ys old new = (t : Task) × Ended slots s ys t old new

  -- What a turn does where no job waits to be finished, and the task of each attempt is ready.
  abbrev pub Works : (slots now : ℕ) → List (Attempt F) → WorkSide F → Turn → WorkSide F → Type 0
  Works slots now xs old (turn.Closed n) new = ⊥
  Works slots now xs old (turn.Committed t) new =
      (ys : List (Attempt F)) × Tried slots old.engine.state xs ys × Ended slots old.engine.state ys t old new
      × adding.Committed t now old.engine.state new.engine.state × (new.engine.log.closed ≡ false)
  Works slots now xs old turn.Idle new = NothingReady old.engine.state old new × (new.engine ≡ old.engine)
  Works slots now xs old turn.NotYet new =
      (ys : List (Attempt F)) × Tried slots old.engine.state xs ys × Waiting slots old.engine.state ys old new × (new.engine ≡ old.engine)
  Works slots now xs old turn.SpawnFault new =
      (ys : List (Attempt F)) × Tried slots old.engine.state xs ys
      × (Stopped old.engine.state ys old new ⊎ (Lost ys old new ⊎ Took slots old.engine.state ys old new))
      × Rose old.seen.faults new.seen.faults × (new.engine ≡ old.engine)
  Works slots now xs old turn.Full new =
      (ys : List (Attempt F)) × Tried slots old.engine.state xs ys × Took slots old.engine.state ys old new × (new.engine ≡ old.engine)
  Works slots now xs old turn.Disk new =
      (ys : List (Attempt F)) × Tried slots old.engine.state xs ys
      × ((Stopped old.engine.state ys old new × (new.engine ≡ old.engine)) ⊎ (Took slots old.engine.state ys old new × (new.engine.log.closed ≡ true)))
      × Rose old.disk_faults new.disk_faults
  Works slots now xs old turn.Memory new =
      (ys : List (Attempt F)) × Tried slots old.engine.state xs ys
      × (((Stopped old.engine.state ys old new ⊎ (Unheard ys old new ⊎ Lost ys old new)) × (new.engine ≡ old.engine))
      ⊎ (Took slots old.engine.state ys old new × SameOrClosed old.engine new.engine))

  -- What it does where the job of this number waits to be finished.
  abbrev pub Finishes : (n now : ℕ) → List (Attempt F) → WorkSide F → Turn → WorkSide F → Type 0
  Finishes n now xs old (turn.Closed m) new =
      (m ≡ n) × Live xs old new × adding.Ended n now old.engine.state new.engine.state × (new.engine.log.closed ≡ false)
  Finishes n now xs old turn.Full new = Live xs old new × (new.engine ≡ old.engine)
  Finishes n now xs old turn.Disk new = Live xs old new × (new.engine.log.closed ≡ true) × Rose old.disk_faults new.disk_faults
  Finishes n now xs old turn.Memory new = Live xs old new × SameOrClosed old.engine new.engine
  Finishes n now xs old _ new = ⊥

  -- the attempts whose tasks are ready
  abbrev pub ready_of : State Body → List (Attempt F) → List (Attempt F)
  ready_of s xs = filter (is_ready_now s) xs

  -- A turn: first the children go whose tasks aren't ready any more.
  pub record Attends (slots now : ℕ) (old : WorkSide F) (end : Turn) (new : WorkSide F) : Type 0 where
    pub mid : WorkSide F
    pub left : attempts_in mid ≡ ready_of old.engine.state (attempts_in old)
    pub counts : SameCounts old.seen mid.seen
    pub faults : NeverFell old.seen.faults mid.seen.faults
    pub engine : mid.engine ≡ old.engine
    pub disk : mid.disk_faults ≡ old.disk_faults
    pub does : ((n : ℕ) × (waiting old.engine.state ≡ Some n) × Finishes n now (attempts_in mid) mid end new)
        ⊎ ((waiting old.engine.state ≡ None) × Works slots now (attempts_in mid) mid end new)
