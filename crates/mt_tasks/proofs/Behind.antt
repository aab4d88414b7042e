-- What a call does to a history that stores in a run, and then ends it or gives it up.
use Rattle.std.proofs.Common.{◌≡◌, ◌≢◌, ◌⊎◌, inl, inr, ⊎_elim, ◌≤◌, ℕ, false, true, List, Option, Some, is_some, refl, sym, ap, ◌∙◌, subst}
use Rattle.mt_base.specs.Lists.{IsPrefixOf}
use Rattle.mt_disk.specs.CrashModel.{LeavesOnly}
use Rattle.mt_disk.specs.Files.{Files}
use Rattle.mt_log.specs.LogImage.{payloads_of}
use Rattle.mt_log.specs.LogState.{Stands, told}
use Rattle.mt_log.specs.RunState.{RunState}
use Rattle.mt_model.specs.CommandStep.{replay}
use Rattle.mt_model.specs.Honest.{Bytes}
use Rattle.mt_model.specs.State.{State}
use Rattle.mt_types.specs.declared.command.Command.{Command}
use Rattle.std.specs.Option.{ForSome}
use Rattle.mt_opening.specs.Current.{EngineIsReady, EngineState, IsBetween, IsCurrent, IsWriting}
use Rattle.mt_opening.specs.History.{HasHistory, History}
use Rattle.mt_opening.proofs.Held.{told_now}
use Rattle.mt_engine.specs.Ready.{EngineGoesOn, EngineStays}
use Rattle.mt_tasks.specs.Adding.{Adds}
use Rattle.mt_tasks.specs.declared.outcomes.OutcomeEnd.{OutcomeEnd}
use Rattle.mt_tasks.specs.declared.outcomes.OutcomeEnd.TheVariants as outcome
use Rattle.mt_tasks.proofs.Commits.{adds_current, adds_more, idle, later_by, leaves_same, leaves_then, leaves_twice, serves_on}
use Rattle.mt_tasks.proofs.Fated.{adds_front, given_up}

-- a run that was just begun
pub begun_writing : (seen : Option Files) (engine : EngineState) (run : RunState) (base : State Bytes) (h : History) (i : IsCurrent seen engine base h) → ForSome (told seen) (λ ps. IsWriting seen engine run base h ps)
    → IsWriting seen engine run base h (payloads_of i.is_read.files)
begun_writing seen engine run base h i all = all (payloads_of i.is_read.files) (told_now seen engine base h i)

-- what a call adds to a history, over one that the engine stands for
abbrev pub AddsOver : {D : Type 0} → (D → Option Files) → (D → ℕ) → (D → ℕ → Files → Type 0) → (State Bytes → Command Bytes → Type 0) → OutcomeEnd → D → EngineState → D → EngineState → State Bytes → History → Type 0
AddsOver seen moment left_since Q end old engine new engine' base h = (k : History) × Adds Q end base h engine (seen new) engine' k × LeavesOnly moment left_since old new (IsBetween base h k)

module _ {D : Type 0} (seen : D → Option Files) (moment : D → ℕ) (left_since : D → ℕ → Files → Type 0) (Q : State Bytes → Command Bytes → Type 0) (old mid new : D) (engine mid_engine engine' : EngineState) (base : State Bytes) (h : History)
    (same : mid_engine ≡ engine) (first : LeavesOnly moment left_since old mid (HasHistory base h)) where
  -- ended with a command
  pub added_behind : (end : OutcomeEnd) (c : Command Bytes) → Q (replay base h) c → AddsOver seen moment left_since (λ s d. d ≡ c) end mid mid_engine new engine' base h → AddsOver seen moment left_since Q end old engine new engine' base h
  added_behind end c is x =
      let a = subst (λ (e : EngineState). Adds (λ s d. d ≡ c) end base h e (seen new) engine' x.0) same x.1 in
      let b = adds_more (λ s d. d ≡ c) Q base h engine (seen new) engine' x.0 (λ d of. subst (λ (y : Command Bytes). Q (replay base h) y) (sym of) is) end a in
      (x.0, b, leaves_then moment left_since old mid new base h x.0 (adds_front Q end base h engine (seen new) engine' x.0 b) first x.2)

  -- given up
  pub up_behind : (result end : OutcomeEnd) → (end ≡ outcome.Unread) ⊎ (end ≡ outcome.Memory) → ((result ≡ end) × (engine' ≡ mid_engine)) ⊎ ((result ≡ outcome.Disk) × (engine'.log.closed ≡ true))
      → (result ≢ outcome.Disk → IsCurrent (seen new) engine' base h) → LeavesOnly moment left_since mid new (HasHistory base h) → AddsOver seen moment left_since Q result old engine new engine' base h
  up_behind result end which how current second =
      let so = subst (λ (e : EngineState). ((result ≡ end) × (engine' ≡ e)) ⊎ ((result ≡ outcome.Disk) × (engine'.log.closed ≡ true))) same how in
      (h, given_up Q base h engine engine' (seen new) result end which so current, leaves_same moment left_since old new base h (leaves_twice moment left_since old mid new base h first second))

module _ {D : Type 0} (seen : D → Option Files) (moment : D → ℕ) (left_since : D → ℕ → Files → Type 0) (Q R : State Bytes → Command Bytes → Type 0) (old new : D) (engine engine' : EngineState) (base : State Bytes) (h : History) where
  -- what is such a command is another
  pub over_more : (end : OutcomeEnd) → ((c : Command Bytes) → Q (replay base h) c → R (replay base h) c) → AddsOver seen moment left_since Q end old engine new engine' base h → AddsOver seen moment left_since R end old engine new engine' base h
  over_more end each x = (x.0, adds_more Q R base h engine (seen new) engine' x.0 each end x.1, x.2)

module _ {D : Type 0} (seen : D → Option Files) (may_leave : D → Files → Type 0) (moment : D → ℕ) (left_since : D → ℕ → Files → Type 0) (count : D → ℕ) (Q : State Bytes → Command Bytes → Type 0) (end : OutcomeEnd) (old new : D) (engine engine' : EngineState)
    (ready : EngineIsReady seen may_leave old engine) (takes : (base : State Bytes) (h : History) → IsCurrent (seen old) engine base h → AddsOver seen moment left_since Q end old engine new engine' base h) where
  -- behind it the engine serves
  pub takes_on : EngineStays seen count old new engine engine' → Stands seen may_leave new engine'.log → EngineGoesOn seen may_leave count old new engine engine'
  takes_on stays stands = record {
    stays = stays;
    stands = stands;
    serves = serves_on (seen old) (seen new) engine engine' ready.serves ready.is_open stays.told
        (λ base h i open'. let x = takes base h i in (x.0, adds_current Q end base h engine (seen new) engine' x.0 x.1 open'));
  }

  -- and time goes on
  pub takes_later : is_some (seen old) ≡ true → moment old ≤ moment new
  takes_later = later_by (seen old) engine (moment old ≤ moment new) ready.serves ready.is_open (λ base h i. (takes base h i).2.later)
