-- One turn: how the account goes on, what a crash leaves, and what is at work behind it.
use Rattle.std.proofs.Common.{◌≡◌, inl, inr, ℕ, ◌+◌, ◌≤◌, Bool, true, false, List, [], ◌∷◌, ◌++◌, length, refl, ap, sym, subst, ◌∙◌, arith, length-append, Option, Some, None, ⊎_elim}
use Rattle.std.specs.Prelude.{is_some}
use Rattle.mt_base.specs.Counts.{NeverFell, Rose}
use Rattle.mt_base.specs.Lists.{IsPrefixOf}
use Rattle.mt_disk.specs.CrashModel.{LeavesOnly}
use Rattle.mt_disk.specs.Files.{Files}
use Rattle.mt_types.specs.declared.command.Command.{Command}
use Rattle.mt_types.specs.declared.task.Raw.{Raw}
use Rattle.mt_types.specs.declared.task.Run.{Run}
use Rattle.mt_model.specs.Honest.{Bytes}
use Rattle.mt_model.specs.State.{State}
use Rattle.mt_records.specs.Fate.{fate}
use Rattle.mt_opening.specs.Current.{EngineState, IsBetween, IsCurrent, Over, Serves, told_size}
use Rattle.mt_opening.specs.History.{HasHistory, History}
use Rattle.mt_engine.specs.Ready.{EngineGoesOn}
use Rattle.mt_runner.specs.Attempts.{Attempt}
use Rattle.mt_runner.specs.Account.{AccountSide, NoCountFell, account_side, asked_again, tasks_of, told_time}
use Rattle.mt_runner.specs.Attends.{WorkSide, attempts_in}
use Rattle.mt_runner.specs.AtWork.{AreRightNow}
use Rattle.mt_runner.specs.ByAnswer.{GoesOn}
use Rattle.mt_runner.specs.Living.{LivesTo}
use Rattle.mt_runner.specs.Moves.{Due, Moves, MovesOn}
use Rattle.mt_runner.specs.Progress.{Progress, Progressed}
use Rattle.mt_runner.specs.Turning.{TakesTurn, TurnImages, Working, working_of}
use Rattle.mt_runner.specs.declared.turn.Turn.{Turn}
use Rattle.mt_runner.specs.declared.turn.Turn.TheVariants as turn
use Rattle.mt_runner.proofs.Answered.{open_by}
use Rattle.mt_runner.proofs.Crashes.{all_of, images_open, left_now, nearly_between, only_between}
use Rattle.mt_runner.proofs.Rights.{ready_is, waiting_is}
use Rattle.mt_runner.proofs.Standing.{not_both, not_told, right_now, told_files}
use Rattle.mt_runner.proofs.Takes.{size_is, takes_told, takes_untold}

-- ---- what a turn moved, by its answer

module _ (Q : State Bytes → Command Bytes → Type 0) (base : State Bytes) (h : History) (e : EngineState) (seen' : Option Files) (e' : EngineState) (k : History) where
  stands_so : k ≡ h → IsCurrent seen' e' base h → IsCurrent seen' e' base k
  stands_so same i = subst (λ (g : History). IsCurrent seen' e' base g) (sym same) i

  -- an engine that is open stands for what it led to
  pub current_by : (end : Turn) → Moves Q end base h e seen' e' k → e'.log.closed ≡ false → IsCurrent seen' e' base k
  current_by (turn.Closed n) m is_open = m.0.current
  current_by (turn.Committed t) m is_open = m.0.current
  current_by turn.Idle m is_open = stands_so m.0 m.1
  current_by turn.NotYet m is_open = stands_so m.0 m.1
  current_by turn.SpawnFault m is_open = stands_so m.0 m.1
  current_by turn.Full m is_open = stands_so m.history m.current
  current_by turn.Disk (inl m) is_open = stands_so m.0 (m.1 is_open)
  current_by turn.Disk (inr m) is_open = not_both e'.log.closed m.0 is_open
  current_by turn.Memory m is_open = stands_so m.0 (m.1 is_open)

  same_front : k ≡ h → IsPrefixOf h k
  same_front same = subst (λ (g : History). IsPrefixOf h g) (sym same) (all_of h)

  pub front_by : (end : Turn) → Moves Q end base h e seen' e' k → IsPrefixOf h k
  front_by (turn.Closed n) m = (m.0.command ∷ [], sym m.0.history)
  front_by (turn.Committed t) m = (m.0.command ∷ [], sym m.0.history)
  front_by turn.Idle m = same_front m.0
  front_by turn.NotYet m = same_front m.0
  front_by turn.SpawnFault m = same_front m.0
  front_by turn.Full m = same_front m.history
  front_by turn.Disk (inl m) = same_front m.0
  front_by turn.Disk (inr m) = (m.1.command ∷ [], sym m.1.history)
  front_by turn.Memory m = same_front m.0

  -- what is between is the history of before, where nothing was added
  same_image : k ≡ h → (c : Files) → IsBetween base h k c → HasHistory base k c
  same_image same c b = only_between base k c (subst (λ (g : History). IsBetween base g k c) (sym same) b)

  one_more : (c : Command Bytes) → k ≡ h ++ c ∷ [] → length k ≤ length h + 1
  one_more c is = let long : length k ≡ length (h ++ c ∷ []) = ap length is in let all = length-append h (c ∷ []) in omega (arith, long, all)

  no_more : k ≡ h → length k ≤ length h + 1
  no_more is = let long : length k ≡ length h = ap length is in omega (arith, long)

-- ---- over a disk

module _ {D : Type 0} (seen : D → Option Files) (may_leave : D → Files → Type 0) (moment : D → ℕ) (left_since : D → ℕ → Files → Type 0) (disk disk' : D) where
  -- each image has the history that a turn led to, or nearly
  pub images_by : (Q : State Bytes → Command Bytes → Type 0) (base : State Bytes) (h : History) (e e' : EngineState) (k : History) (end : Turn) → ((t : ℕ) (c : Files) → t ≤ moment disk' → may_leave disk' c → left_since disk' t c)
      → Moves Q end base h e (seen disk') e' k → LeavesOnly moment left_since disk disk' (IsBetween base h k) → (GoesOn end e'.log.closed → (c : Files) → e'.log.closed ≡ false → may_leave disk' c → HasHistory base k c)
      → GoesOn end e'.log.closed → TurnImages end base k (may_leave disk')
  images_by Q base h e e' k (turn.Closed n) now m leaves there g = λ c image. there g c g image
  images_by Q base h e e' k (turn.Committed t) now m leaves there g = λ c image. there g c g image
  images_by Q base h e e' k turn.Idle now m leaves there g = λ c image. same_image Q base h e (seen disk') e' k m.0 c (left_now may_leave moment left_since disk disk' base h k now leaves c image)
  images_by Q base h e e' k turn.NotYet now m leaves there g = λ c image. same_image Q base h e (seen disk') e' k m.0 c (left_now may_leave moment left_since disk disk' base h k now leaves c image)
  images_by Q base h e e' k turn.SpawnFault now m leaves there g = λ c image. same_image Q base h e (seen disk') e' k m.0 c (left_now may_leave moment left_since disk disk' base h k now leaves c image)
  images_by Q base h e e' k turn.Full now m leaves there g = λ c image. same_image Q base h e (seen disk') e' k m.history c (left_now may_leave moment left_since disk disk' base h k now leaves c image)
  images_by Q base h e e' k turn.Disk now m leaves there g = λ c image.
      nearly_between base h k c (⊎_elim (λ a. no_more Q base h e (seen disk') e' k a.0) (λ a. one_more Q base h e (seen disk') e' k a.1.command a.1.history) m) (left_now may_leave moment left_since disk disk' base h k now leaves c image)
  images_by Q base h e e' k turn.Memory now m leaves there g = λ c image. same_image Q base h e (seen disk') e' k m.0 c (left_now may_leave moment left_since disk disk' base h k now leaves c image)

time_told : (b : Bool) (m n : ℕ) → b ≡ true → m ≤ n → told_time b m ≤ told_time b n
time_told true m n is less = less
time_told false m n is less = not_both false is refl

time_untold : (b : Bool) (m n : ℕ) → b ≡ false → told_time b m ≤ told_time b n
time_untold true m n is = not_both true refl is
time_untold false m n is = omega arith

-- what goes on over a base and a history, where a turn takes the one side to the other
abbrev pub GoesFrom : {D : Type 0} → (D → Option Files) → (D → Files → Type 0) → (D → ℕ) → (D → ℕ → Files → Type 0) → D → D → EngineState → Turn → State Bytes → History → (History → Type 0) → Type 0
GoesFrom seen may_leave moment left_since disk disk' e' end base h Takes =
    (k : History) × Takes k
    × (e'.log.closed ≡ false → Over (seen disk') e' base k) × IsPrefixOf h k
    × (is_some (seen disk) ≡ true → TurnImages end base k (may_leave disk'))
    × (is_some (seen disk) ≡ true → LeavesOnly moment left_since disk disk' (IsBetween base h k))

module _ {D F : Type 0} (seen : D → Option Files) (may_leave : D → Files → Type 0) (faults : D → ℕ) (moment : D → ℕ) (left_since : D → ℕ → Files → Type 0)
    (moments : ℕ → ℕ → Type 0) (runs : Run → Bytes → Raw → Type 0) (may : F → Raw → Type 0) (login : Bytes) (slots call call' now : ℕ)
    (disk disk' : D) (old new : WorkSide F) (end : Turn)
    (given : moments call now) (asked : call' ≡ asked_again call)
    (is_open : old.engine.log.closed ≡ false)
    (moves : MovesOn seen moment left_since login runs may now disk old end disk' new)
    (progress : Progressed slots old.engine.state old end new)
    (goes : EngineGoesOn seen may_leave faults disk disk' old.engine new.engine)
    (opened : GoesOn end new.engine.log.closed)
    (right : AreRightNow login runs may (seen disk) old.engine (attempts_in old)) where
  abbrev old_side : History → ℕ → AccountSide
  old_side h used = account_side h used old.disk_faults (told_time (is_some (seen disk)) (moment disk)) call (tasks_of old.seen)

  abbrev new_side : History → ℕ → AccountSide
  new_side k asked = account_side k (told_size (seen disk') new.engine) new.disk_faults (told_time (is_some (seen disk)) (moment disk')) asked (tasks_of new.seen)

  abbrev in_state : State Bytes → Working
  in_state base = working_of (is_some (seen disk)) moments runs login slots old.engine.log.limit base

  abbrev Went : State Bytes → History → Type 0
  Went base h = GoesFrom seen may_leave moment left_since disk disk' new.engine end base h (λ k. TakesTurn (in_state base) (old_side h (told_size (seen disk) old.engine)) end (new_side k call'))

  counts_of : (old.disk_faults ≡ faults disk) → (new.disk_faults ≡ faults disk') → NeverFell old.seen.faults new.seen.faults → told_time (is_some (seen disk)) (moment disk) ≤ told_time (is_some (seen disk)) (moment disk') → (h k : History) (used : ℕ)
      → NoCountFell (old_side h used) (new_side k (asked_again call))
  counts_of before after spawn time h k used = record {
    disk = let x = goes.stays.faults in omega (arith, x, before, after);
    time = time;
    asked = omega arith;
    spawn = spawn;
    waits = progress.waits;
    company = progress.company;
  }

  module _ (before : old.disk_faults ≡ faults disk) (after : new.disk_faults ≡ faults disk') (spawn : NeverFell old.seen.faults new.seen.faults)
      (counts_now : (t : ℕ) (c : Files) → t ≤ moment disk' → may_leave disk' c → left_since disk' t c) where
    there : (base : State Bytes) (k : History) (c : Files) → IsCurrent (seen disk') new.engine base k → may_leave disk' c → HasHistory base k c
    there base k c i image = images_open seen may_leave disk' new.engine base k goes.stands i.is_read.is_open (λ files is. i) (ap is_some i.is_read.seen_is) c image

    -- where the disk tells what it holds
    went_told : (base : State Bytes) (h : History) → is_some (seen disk) ≡ true → IsCurrent (seen disk) old.engine base h → Went base h
    went_told base h knows i =
        let m = moves base h i (right base h i) in
        let time = time_told (is_some (seen disk)) (moment disk) (moment disk') knows m.leaves.later in
        let took : TakesTurn (in_state base) (old_side h (old.engine.log.gate + 1)) end (new_side m.whole (asked_again call)) =
        takes_told moments runs login slots base (is_some (seen disk)) knows call now given h (seen disk') m.whole old new (told_time (is_some (seen disk)) (moment disk)) (told_time (is_some (seen disk)) (moment disk')) is_open
        (waiting_is (seen disk) old.engine base h i) (ready_is (seen disk) old.engine base h i) end m.moves progress (counts_of before after spawn time h m.whole (old.engine.log.gate + 1)) in (
          m.whole,
          subst (λ (n : ℕ). TakesTurn (in_state base) (old_side h (told_size (seen disk) old.engine)) end (new_side m.whole n)) (sym asked)
              (subst (λ (n : ℕ). TakesTurn (in_state base) (old_side h n) end (new_side m.whole (asked_again call))) (sym (size_is (seen disk) old.engine base h i)) took),
          (λ still files is. current_by (Due login runs now) base h old.engine (seen disk') new.engine m.whole end m.moves still),
          front_by (Due login runs now) base h old.engine (seen disk') new.engine m.whole end m.moves,
          (λ kn. images_by seen may_leave moment left_since disk disk' (Due login runs now) base h old.engine new.engine m.whole end counts_now m.moves m.leaves
              (λ g c still image. there base m.whole c (current_by (Due login runs now) base h old.engine (seen disk') new.engine m.whole end m.moves still) image) opened),
          (λ kn. m.leaves),
        )

    -- where it tells nothing
    went_untold : (base : State Bytes) (h : History) → is_some (seen disk) ≡ false → Went base h
    went_untold base h untold =
        let time = time_untold (is_some (seen disk)) (moment disk) (moment disk') untold in (
          h,
          subst (λ (n : ℕ). TakesTurn (in_state base) (old_side h (told_size (seen disk) old.engine)) end (new_side h n)) (sym asked)
              (takes_untold (in_state base) (old_side h (told_size (seen disk) old.engine)) (new_side h (asked_again call)) refl (counts_of before after spawn time h h (told_size (seen disk) old.engine)) untold end
              (λ disk_ memory. size_none (seen disk') (goes.stays.told (open_by end new.engine.log.closed opened disk_ memory) ∙ untold) new.engine ∙ sym (size_none (seen disk) untold old.engine))
              refl (λ is. (waits_by end progress.by_end is)) (λ is. (faults_by end progress.by_end is)) (λ is. (fails_by end progress.by_end is))),
          (λ still files is. not_told (seen disk') files is (goes.stays.told still ∙ untold)),
          all_of h,
          (λ kn. not_both (is_some (seen disk)) kn untold),
          (λ kn. not_both (is_some (seen disk)) kn untold),
        )
      where
        size_none : (o : Option Files) → is_some o ≡ false → (e : EngineState) → told_size o e ≡ 0
        size_none None is e = refl
        size_none (Some files) is e = cc

        waits_by : (t : Turn) → Progress slots old.engine.state old t new → t ≡ turn.NotYet → Rose old.seen.waits new.seen.waits
        waits_by t p is = let q : Progress slots old.engine.state old turn.NotYet new = subst (λ (u : Turn). Progress slots old.engine.state old u new) is p in q.2

        faults_by : (t : Turn) → Progress slots old.engine.state old t new → t ≡ turn.SpawnFault → Rose old.seen.faults new.seen.faults
        faults_by t p is = let q : Progress slots old.engine.state old turn.SpawnFault new = subst (λ (u : Turn). Progress slots old.engine.state old u new) is p in q.2

        fails_by : (t : Turn) → Progress slots old.engine.state old t new → t ≡ turn.Disk → Rose old.disk_faults new.disk_faults
        fails_by t p is = let q : Progress slots old.engine.state old turn.Disk new = subst (λ (u : Turn). Progress slots old.engine.state old u new) is p in q.0

    -- and that it is a list of steps of a life
    pub lived : (base : State Bytes) (h : History) → IsCurrent (seen disk) old.engine base h
        → LivesTo login runs (fate login) seen may_leave moment left_since disk disk' new.engine end base h old.kept new.kept
    lived base h i =
        let m = moves base h i (right base h i) in
        record {
          whole = m.whole;
          lives = m.lives;
          grew = front_by (Due login runs now) base h old.engine (seen disk') new.engine m.whole end m.moves;
          current = λ still. current_by (Due login runs now) base h old.engine (seen disk') new.engine m.whole end m.moves still;
          images = images_by seen may_leave moment left_since disk disk' (Due login runs now) base h old.engine new.engine m.whole end counts_now m.moves m.leaves
              (λ g c still image. there base m.whole c (current_by (Due login runs now) base h old.engine (seen disk') new.engine m.whole end m.moves still) image) opened;
          leaves = m.leaves;
        }

    pub went : (base : State Bytes) (h : History) → Over (seen disk) old.engine base h → Went base h
    went base h over = by (is_some (seen disk)) refl
      where
        by : (b : Bool) → is_some (seen disk) ≡ b → Went base h
        by true is = let files = told_files (seen disk) is in went_told base h is (over files.0 files.1)
        by false is = went_untold base h is

  -- the attempts are right at the end
  pub right_after : Serves (seen disk) old.engine → AreRightNow login runs may (seen disk') new.engine (attempts_in new)
  right_after serves a k j =
      let files = told_files (seen disk) (sym (goes.stays.told j.is_read.is_open) ∙ ap is_some j.is_read.seen_is) in
      let s = serves is_open files.0 files.1 in
      let m = moves s.0 s.1 s.2 (right s.0 s.1 s.2) in
      right_now login runs may (seen disk') new.engine s.0 m.whole (attempts_in new)
      (current_by (Due login runs now) s.0 s.1 old.engine (seen disk') new.engine m.whole end m.moves j.is_read.is_open) (m.right j.is_read.is_open) a k j

-- the same at an equal rule and login
pub at_rule : {F R : Type 0} (gives : R → Run → Bytes → Raw → Type 0) (may : R → F → Raw → Type 0) (r r' : R) (login login' : Bytes) (files : Option Files) (e : EngineState) (xs : List (Attempt F)) → r' ≡ r → login' ≡ login
    → AreRightNow login (gives r) (may r) files e xs → AreRightNow login' (gives r') (may r') files e xs
at_rule {F} {R} gives may r r' login login' files e xs er el is =
    subst (λ (l : Bytes). AreRightNow l (gives r') (may r') files e xs) (sym el) (subst (λ (q : R). AreRightNow login (gives q) (may q) files e xs) (sym er) is)
