-- An engine stands for one history, and what is right over it stays right.
use Rattle.std.proofs.Common.{◌≡◌, ◌⊎◌, inl, inr, ℕ, ◌+◌, ◌<◌, ◌≤◌, Bool, true, false, List, [], ◌∷◌, ◌++◌, length, refl, ap, sym, subst, ◌∙◌, arith, Option, Some, None}
use Rattle.std.specs.Prelude.{is_some}
use Rattle.std.specs.List.{AllByRecursion}
use Rattle.mt_base.specs.Lists.{IsPrefixOf}
use Rattle.mt_disk.specs.Files.{Files}
use Rattle.mt_log.specs.LogImage.{payloads_of}
use Rattle.mt_types.specs.declared.command.Command.{Command}
use Rattle.mt_types.specs.declared.task.Raw.{Raw}
use Rattle.mt_types.specs.declared.task.Run.{Run}
use Rattle.mt_model.specs.CommandStep.{replay, step}
use Rattle.mt_model.specs.Honest.{Bytes}
use Rattle.mt_model.specs.Lawful.{Lawful}
use Rattle.mt_model.specs.Laws.{TakenFrom}
use Rattle.mt_model.specs.State.{State}
use Rattle.mt_model.proofs.LawfulHistories.{lawful_step, lawful_taken, taken_front, taken_rest}
use Rattle.mt_model.proofs.LawfulSteps.{Lawful-first_state}
use Rattle.mt_model.proofs.Replays.{replay_on}
use Rattle.mt_spawn.specs.Children.{Seen}
use Rattle.mt_spawn.specs.declared.task.Left.{Left}
use Rattle.mt_opening.specs.Current.{EngineState, IsCurrent, Over, Serves}
use Rattle.mt_opening.specs.History.{History, IsHistoryOf}
use Rattle.mt_opening.proofs.Histories.{one_history}
use Rattle.mt_opening.proofs.Taking.{history_taken}
use Rattle.mt_runner.specs.Attempts.{Attempt, RunnerState, attempts}
use Rattle.mt_runner.specs.AtWork.{AreRight, AreRightNow, AtWork}
use Rattle.mt_runner.proofs.Crashes.{or_else}
use Rattle.mt_runner.proofs.Rights.{right_grows}

-- ---- one history

-- an engine stands for one base and one history
pub current_one : (seen : Option Files) (e : EngineState) (a b : State Bytes) (h k : History) → IsCurrent seen e a h → IsCurrent seen e b k → (a ≡ b) × (h ≡ k)
current_one seen e a b h k i j =
    let same : i.is_read.files ≡ j.is_read.files = ap (or_else i.is_read.files) (sym i.is_read.seen_is ∙ j.is_read.seen_is) in
    one_history (payloads_of j.is_read.files) a b h k (subst (λ (f : Files). IsHistoryOf (payloads_of f) a h) same i.is_read.history) j.is_read.history

-- a command can be in no log that is open and closed
pub not_both : {X : Type 0} (closed : Bool) → closed ≡ true → closed ≡ false → X
not_both closed is un = let bad : true ≡ false = sym is ∙ un in absurd (cc)

-- what a disk tells, where it tells something
pub told_files : (o : Option Files) → is_some o ≡ true → (files : Files) × (o ≡ Some files)
told_files None is = not_both false is refl
told_files (Some files) is = (files, refl)

pub not_told : {X : Type 0} (o : Option Files) (files : Files) → o ≡ Some files → is_some o ≡ false → X
not_told o files is un = not_both (is_some o) (ap is_some is) un

-- ---- what is right over one history

module _ {F : Type 0} (login : Bytes) (runs : Run → Bytes → Raw → Type 0) (may : F → Raw → Type 0) where
  -- is right over any that the engine stands for
  pub right_now : (seen : Option Files) (e : EngineState) (base : State Bytes) (h : History) (xs : List (Attempt F)) → IsCurrent seen e base h → AreRight login runs may (replay base h) xs → AreRightNow login runs may seen e xs
  right_now seen e base h xs i r a k j =
      let one = current_one seen e base a h k i j in
      subst (λ (s : State Bytes). AreRight login runs may s xs) (ap (λ (b : State Bytes). replay b h) one.0 ∙ ap (λ (g : History). replay a g) one.1) r

  each_grows : (s : State Bytes) (c : Command Bytes) → Lawful s → TakenFrom length s (c ∷ []) → (xs : List (Attempt F)) → AreRight login runs may s xs → AreRight login runs may (step s c) xs
  unfolding TakenFrom
  each_grows s c law taken [] r = tt
  each_grows s c law taken (x ∷ xs) r = (right_grows login runs may s c law taken.0 (record { made = taken.1; free = taken.2 }) x.task x.fate r.0, each_grows s c law taken xs r.1)

  -- commands leave attempts right
  pub rights_on : (s : State Bytes) (cs : List (Command Bytes)) → Lawful s → TakenFrom length s cs → (xs : List (Attempt F)) → AreRight login runs may s xs → AreRight login runs may (replay s cs) xs
  unfolding TakenFrom replay
  rights_on s [] law taken xs r = r
  rights_on s (c ∷ cs) law taken xs r =
      rights_on (step s c) cs (lawful_step length s c law taken.0 taken.1 taken.2) taken.3 xs (each_grows s c law (taken.0, taken.1, taken.2, tt) xs r)

  -- also those of others, between two turns
  pub rights_stay : (seen : Option Files) (e : EngineState) (base : State Bytes) (h more : History) (xs : List (Attempt F)) → IsCurrent seen e base (h ++ more) → AreRight login runs may (replay base h) xs
      → AreRight login runs may (replay base (h ++ more)) xs
  rights_stay seen e base h more xs i r =
      let taken = history_taken (payloads_of i.is_read.files) base (h ++ more) i.is_read.history in
      let first : Lawful base = subst (λ (s : State Bytes). Lawful s) (sym i.is_read.history.begins.1) (Lawful-first_state Bytes) in
      subst (λ (s : State Bytes). AreRight login runs may s xs) (sym (replay_on base h more))
      (rights_on (replay base h) more (lawful_taken length base h first (taken_front length base h more taken)) (taken_rest length base h more taken) xs r)

  -- a runner is at work still where its engine and its disk went on by commands of others
  pub at_work_more : (seen : Seen F) (held : Option Left) (runner : RunnerState) (files files' : Option Files) (e e' : EngineState) → runner.login ≡ login → e.log.closed ≡ false → Serves files e
      → (e'.log.closed ≡ false → is_some files' ≡ is_some files)
      → ((base : State Bytes) (h : History) → Over files e base h → (k : History) × IsPrefixOf h k × (e'.log.closed ≡ false → Over files' e' base k))
      → AtWork may runs seen held runner files e → AtWork may runs seen held runner files' e'
  at_work_more seen held runner files files' e e' mine is_open serves told goes w = record { paired = w.paired; free = w.free; right = right }
    where
      right : AreRightNow runner.login runs may files' e' (attempts runner.kept seen.live)
      right a k i =
          let was = told_files files (sym (told i.is_read.is_open) ∙ ap is_some i.is_read.seen_is) in
          let s = serves is_open was.0 was.1 in
          let g = goes s.0 s.1 (λ f is. s.2) in
          let now : IsCurrent files' e' s.0 g.0 = g.2 i.is_read.is_open i.is_read.files i.is_read.seen_is in
          let more : IsCurrent files' e' s.0 (s.1 ++ g.1.0) = subst (λ (q : History). IsCurrent files' e' s.0 q) (sym g.1.1) now in
          let old : AreRight login runs may (replay s.0 s.1) (attempts runner.kept seen.live) = subst (λ (l : Bytes). AreRight l runs may (replay s.0 s.1) (attempts runner.kept seen.live)) mine (w.right s.0 s.1 s.2) in
          subst (λ (l : Bytes). AreRight l runs may (replay a k) (attempts runner.kept seen.live)) (sym mine)
          (right_now files' e' s.0 (s.1 ++ g.1.0) (attempts runner.kept seen.live) more (rights_stay files' e' s.0 s.1 g.1.0 (attempts runner.kept seen.live) more old) a k i)
