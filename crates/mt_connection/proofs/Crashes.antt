-- What a crash may leave at the end of a step.
use Rattle.std.proofs.Common.{◌≡◌, ◌≤◌, ℕ, ◌+◌, List, [], ◌∷◌, ◌++◌, length, Option, Some, None, Ok, Bool, true, false, inl, inr, ◌⊎◌, refl, ap, sym, subst, ◌∙◌, arith, append-nil, append_assoc, length-append}
use Rattle.std.specs.Prelude.{is_some}
use Rattle.mt_base.specs.Lists.{IsPrefixOf}
use Rattle.mt_disk.specs.CrashModel.{LeavesOnly, OnlyRead}
use Rattle.mt_disk.specs.Files.{Files}
use Rattle.mt_disk.proofs.Moments.{joins}
use Rattle.mt_disk.proofs.Readings.{reads_leave, reads_none}
use Rattle.mt_log.specs.LogImage.{chosen_by, payloads_of}
use Rattle.mt_log.specs.LogState.{LogState, Stands}
use Rattle.mt_log.proofs.Standing.{log_is}
use Rattle.mt_log.proofs.Walks.{read_by}
use Rattle.mt_opening.specs.Current.{EngineIsReady, EngineState, HasFront, HasNearly, IsBetween, IsCurrent, Over}
use Rattle.mt_opening.specs.History.{Bytes, HasHistory, History}
use Rattle.mt_engine.specs.Ready.{EngineGoesOn}
use Rattle.mt_model.specs.State.{State}
use Rattle.mt_runner.specs.Account.{AccountSide, told_time}
use Rattle.mt_connection.specs.Steps.{MovesOn}
use Rattle.mt_connection.specs.Transcript.{HoldsSince}

pub all_of : (h : History) → IsPrefixOf h h
all_of h = ([], append-nil h)

-- the files that an engine is current over have its history
has_history : (seen : Option Files) (engine : EngineState) (base : State Bytes) (h : History) → (i : IsCurrent seen engine base h) → HasHistory base h i.is_read.files
has_history seen engine base h i = record {
  ps = payloads_of i.is_read.files;
  read = log_is i.is_read.files engine.log i.is_read.log false ∙ ap (λ (old : Bool). read_by false old (Ok (payloads_of i.is_read.files))) i.version;
  fit = λ empty. let no : None ≡ Some engine.log.file = sym (ap (λ (head : List ℕ). chosen_by head i.is_read.files.two) empty) ∙ i.is_read.log.is_chosen in absurd (cc);
  is = i.is_read.history;
}

abbrev or_else : Files → Option Files → Files
or_else files None = files
or_else files (Some other) = other

-- each image of a disk whose engine is open has its history
pub images_open : {D : Type 0} (seen : D → Option Files) (may_leave : D → Files → Type 0) (disk : D) (engine : EngineState) (base : State Bytes) (k : History)
    → Stands seen may_leave disk engine.log → engine.log.closed ≡ false → Over (seen disk) engine base k → is_some (seen disk) ≡ true → (c : Files) → may_leave disk c → HasHistory base k c
images_open seen may_leave disk engine base k stands is_open over knows c image = told (seen disk) refl
  where
    told : (o : Option Files) → seen disk ≡ o → HasHistory base k c
    told None is = let no : false ≡ true = sym (ap is_some is) ∙ knows in absurd (cc)
    told (Some files) is =
        let i = over files is in
        let same : i.is_read.files ≡ files = ap (or_else files) (sym i.is_read.seen_is ∙ is) in
        subst (λ (x : Files). HasHistory base k x) (same ∙ sym ((stands is_open files is).0 c image)) (has_history (seen disk) engine base k i)

no_longer : (h : History) (q : History) (g : History) → g ++ q ≡ h → length h ≤ length g → g ≡ h
no_longer h [] g is short = sym (append-nil g) ∙ is
no_longer h (x ∷ q) g is short = let long : length (g ++ x ∷ q) ≡ length h = ap length is in let all : length (g ++ x ∷ q) ≡ length g + length (x ∷ q) = length-append g (x ∷ q) in absurd (omega (arith, long, all, short))

front_length : (h g : History) → IsPrefixOf h g → length h ≤ length g
front_length h g front = let long : length (h ++ front.0) ≡ length g = ap length front.1 in let all = length-append h front.0 in omega (arith, long, all)

-- what is between one history and itself has it
pub only_between : (base : State Bytes) (h : History) (c : Files) → IsBetween base h h c → HasHistory base h c
only_between base h c i = subst (λ (g : History). HasHistory base g c) (no_longer h i.to.0 i.history i.to.1 (front_length h i.history i.from)) i.has

-- what is between a history and one with a command more has nearly all of it
pub nearly_between : (base : State Bytes) (h k : History) (c : Files) → length k ≤ length h + 1 → IsBetween base h k c → HasNearly base k c
nearly_between base h k c short i = record { history = i.history; has = i.has; front = i.to; last = let long = front_length h i.history i.from in omega (arith, short, long) }

pub between_all : (base : State Bytes) (h k : History) (c : Files) → IsPrefixOf h k → HasHistory base k c → IsBetween base h k c
between_all base h k c front has = record { history = k; has = has; from = front; to = all_of k }

pub between_first : (base : State Bytes) (h k : History) (c : Files) → IsPrefixOf h k → HasHistory base h c → IsBetween base h k c
between_first base h k c front has = record { history = h; has = has; from = all_of h; to = front }

pub front_of_front : (h m k : History) → IsPrefixOf h m → IsPrefixOf m k → IsPrefixOf h k
front_of_front h m k a b = (a.0 ++ b.0, sym (append_assoc h a.0 b.0) ∙ (ap (λ (x : History). x ++ b.0) a.1 ∙ b.1))

-- more may come behind, and came before
pub between_to : (base : State Bytes) (h m k : History) (c : Files) → IsPrefixOf m k → IsBetween base h m c → IsBetween base h k c
between_to base h m k c more b = record { history = b.history; has = b.has; from = b.from; to = front_of_front b.history m k b.to more }

pub between_from : (base : State Bytes) (h m k : History) (c : Files) → IsPrefixOf h m → IsBetween base m k c → IsBetween base h k c
between_from base h m k c more b = record { history = b.history; has = b.has; from = front_of_front h m b.history more b.from; to = b.to }

-- where nothing is done, each image is the same
pub unmoved : {D : Type 0} (seen : D → Option Files) (may_leave : D → Files → Type 0) (moment : D → ℕ) (left_since : D → ℕ → Files → Type 0) (disk : D) (engine : EngineState) (base : State Bytes) (h : History)
    → ((c : Files) → left_since disk (moment disk) c → may_leave disk c) → Stands seen may_leave disk engine.log → engine.log.closed ≡ false → Over (seen disk) engine base h → is_some (seen disk) ≡ true
    → LeavesOnly moment left_since disk disk (IsBetween base h h)
unmoved seen may_leave moment left_since disk engine base h only_now stands is_open over knows =
    reads_leave seen may_leave moment left_since disk disk (IsBetween base h h) (reads_none seen may_leave moment left_since disk) only_now
    (λ c image. between_all base h h c (all_of h) (images_open seen may_leave disk engine base h stands is_open over knows c image))

-- where the disk was only read
pub only_read : {D : Type 0} (seen : D → Option Files) (may_leave : D → Files → Type 0) (moment : D → ℕ) (left_since : D → ℕ → Files → Type 0) (old mid new : D) (engine : EngineState) (base : State Bytes) (h k : History)
    → ((c : Files) → left_since mid (moment mid) c → may_leave mid c) → Stands seen may_leave mid engine.log → engine.log.closed ≡ false → Over (seen mid) engine base k → is_some (seen mid) ≡ true
    → IsPrefixOf h k → LeavesOnly moment left_since old mid (IsBetween base h k) → OnlyRead seen may_leave moment left_since mid new → LeavesOnly moment left_since old new (IsBetween base h k)
only_read seen may_leave moment left_since old mid new engine base h k only_now stands is_open over knows front before read =
    joins moment left_since old mid new (IsBetween base h k) (IsBetween base h k) (IsBetween base h k) before
    (reads_leave seen may_leave moment left_since mid new (IsBetween base h k) read only_now (λ c image. between_all base h k c front (images_open seen may_leave mid engine base k stands is_open over knows c image)))
    (λ c b. b) (λ c b. b)

-- what a crash may leave now was left at some moment
pub left_now : {D : Type 0} (may_leave : D → Files → Type 0) (moment : D → ℕ) (left_since : D → ℕ → Files → Type 0) (old new : D) (base : State Bytes) (h k : History)
    → ((t : ℕ) (c : Files) → t ≤ moment new → may_leave new c → left_since new t c) → LeavesOnly moment left_since old new (IsBetween base h k) → (c : Files) → may_leave new c → IsBetween base h k c
left_now may_leave moment left_since old new base h k counts_now run c image = run.each c (counts_now (moment old) c run.later image)

-- ---- moments of a disk, and what stands from one on

-- the moment of a disk that tells
pub at_told : (P : ℕ → Type 0) (knows : Bool) (moment : ℕ) → knows ≡ true → P moment → P (told_time knows moment)
at_told P true moment is p = p
at_told P false moment is p = absurd (cc)

pub told_later : (knows : Bool) (moment moment' : ℕ) → (knows ≡ true → moment ≤ moment') → told_time knows moment ≤ told_time knows moment'
told_later true moment moment' later = later refl
told_later false moment moment' later = omega arith

pub not_later : (knows : Bool) (moment : ℕ) → told_time knows moment ≤ moment
not_later true moment = omega arith
not_later false moment = omega arith

-- an account whose moment is the disk's, where the disk tells
abbrev pub timed : Bool → AccountSide → AccountSide
timed knows x = record x { time = told_time knows x.time }

-- a disk that was only read stands for its log
pub still_stands : {D : Type 0} (seen : D → Option Files) (may_leave : D → Files → Type 0) (moment : D → ℕ) (left_since : D → ℕ → Files → Type 0) (mid new : D) (log : LogState)
    → OnlyRead seen may_leave moment left_since mid new → Stands seen may_leave mid log → Stands seen may_leave new log
still_stands seen may_leave moment left_since mid new log read stands is_open files is = let s = stands is_open files (sym read.seen_same ∙ is) in ((λ c image. s.0 c (read.images.none_more c image)), s.1)

-- from the moment on at which an engine stood for a history, over a disk that was only read since, each image has it
pub holds_read : {D : Type 0} (seen : D → Option Files) (may_leave : D → Files → Type 0) (moment : D → ℕ) (left_since : D → ℕ → Files → Type 0) (mid new : D) (engine : EngineState) (base : State Bytes) (k : History)
    → ((c : Files) → left_since mid (moment mid) c → may_leave mid c) → Stands seen may_leave mid engine.log → engine.log.closed ≡ false → Over (seen mid) engine base k
    → OnlyRead seen may_leave moment left_since mid new → is_some (seen mid) ≡ true → HoldsSince (left_since new) (moment mid) base k
holds_read seen may_leave moment left_since mid new engine base k only_now stands is_open over read knows c image = by (read.time.nothing_else (moment mid) c (omega arith) image)
  where
    all : may_leave mid c → HasFront base c k
    all now = record { history = k; has = images_open seen may_leave mid engine base k stands is_open over knows c now; is_front = all_of k }

    by : left_since mid (moment mid) c ⊎ may_leave new c → HasFront base c k
    by (inl was) = all (only_now c was)
    by (inr is) = all (read.images.none_more c is)

-- the same of a disk that was left alone
pub holds_now : {D : Type 0} (seen : D → Option Files) (may_leave : D → Files → Type 0) (moment : D → ℕ) (left_since : D → ℕ → Files → Type 0) (disk : D) (engine : EngineState) (base : State Bytes) (k : History)
    → ((c : Files) → left_since disk (moment disk) c → may_leave disk c) → Stands seen may_leave disk engine.log → engine.log.closed ≡ false → Over (seen disk) engine base k
    → is_some (seen disk) ≡ true → HoldsSince (left_since disk) (moment disk) base k
holds_now seen may_leave moment left_since disk engine base k only_now stands is_open over =
    holds_read seen may_leave moment left_since disk disk engine base k only_now stands is_open over (reads_none seen may_leave moment left_since disk)

-- ---- from one history to another

-- where nothing is done
pub moves_none : {D : Type 0} (seen : D → Option Files) (may_leave : D → Files → Type 0) (moment : D → ℕ) (left_since : D → ℕ → Files → Type 0) (disk : D) (engine : EngineState) (base : State Bytes) (h : History)
    → ((c : Files) → left_since disk (moment disk) c → may_leave disk c) → Stands seen may_leave disk engine.log → engine.log.closed ≡ false → Over (seen disk) engine base h
    → MovesOn seen moment left_since disk disk engine base h h
moves_none seen may_leave moment left_since disk engine base h only_now stands is_open over =
    record { over = λ is_open. over; front = all_of h; any_moment = λ knows. unmoved seen may_leave moment left_since disk engine base h only_now stands is_open over knows }

-- one call after another
pub moves_more : {D : Type 0} (seen : D → Option Files) (moment : D → ℕ) (left_since : D → ℕ → Files → Type 0) (old mid new : D) (engine engine' : EngineState) (base : State Bytes) (h m k : History)
    → is_some (seen mid) ≡ is_some (seen old) → MovesOn seen moment left_since old mid engine base h m → MovesOn seen moment left_since mid new engine' base m k → MovesOn seen moment left_since old new engine' base h k
moves_more seen moment left_since old mid new engine engine' base h m k told a b = record {
  over = b.over;
  front = front_of_front h m k a.front b.front;
  any_moment = λ knows. joins moment left_since old mid new (IsBetween base h m) (IsBetween base m k) (IsBetween base h k) (a.any_moment knows) (b.any_moment (told ∙ knows))
      (λ c between. between_to base h m k c b.front between) (λ c between. between_from base h m k c a.front between);
}

-- ---- what calls keep of an engine

pub goes_on_none : {D : Type 0} (seen : D → Option Files) (may_leave : D → Files → Type 0) (count : D → ℕ) (disk : D) (engine : EngineState) → EngineIsReady seen may_leave disk engine → EngineGoesOn seen may_leave count disk disk engine engine
goes_on_none seen may_leave count disk engine ready =
    record { stays = record { told = λ is_open. refl; version = λ is_open. refl; limit = λ is_open. refl; faults = omega arith }; stands = ready.stands; serves = ready.serves }

pub still_ready : {D : Type 0} (seen : D → Option Files) (may_leave : D → Files → Type 0) (count : D → ℕ) (disk disk' : D) (engine engine' : EngineState) → EngineIsReady seen may_leave disk engine
    → EngineGoesOn seen may_leave count disk disk' engine engine' → engine'.log.closed ≡ false → EngineIsReady seen may_leave disk' engine'
still_ready seen may_leave count disk disk' engine engine' ready on is_open = record { stands = on.stands; is_open = is_open; version = on.stays.version is_open ∙ ready.version; serves = on.serves }

pub goes_on_more : {D : Type 0} (seen : D → Option Files) (may_leave : D → Files → Type 0) (count : D → ℕ) (old mid new : D) (engine engine' engine'' : EngineState) → engine'.log.closed ≡ false
    → EngineGoesOn seen may_leave count old mid engine engine' → EngineGoesOn seen may_leave count mid new engine' engine'' → EngineGoesOn seen may_leave count old new engine engine''
goes_on_more seen may_leave count old mid new engine engine' engine'' is_open a b = record {
  stays = record {
    told = λ still. b.stays.told still ∙ a.stays.told is_open;
    version = λ still. b.stays.version still ∙ a.stays.version is_open;
    limit = λ still. b.stays.limit still ∙ a.stays.limit is_open;
    faults = let one = a.stays.faults in let two = b.stays.faults in omega (arith, one, two);
  };
  stands = b.stands;
  serves = b.serves;
}

-- what a crash since an earlier moment leaves behind a call was left before it, or has the history that stood before it
pub goes_from : {D : Type 0} (moment : D → ℕ) (left_since : D → ℕ → Files → Type 0) (mid new : D) (base : State Bytes) (m k : History) → LeavesOnly moment left_since mid new (IsBetween base m k)
    → (t : ℕ) (c : Files) → t ≤ moment mid → left_since new t c → left_since mid t c ⊎ HasFront base c m
goes_from moment left_since mid new base m k leaves t c early image = elim (leaves.before t c early image) [ inl was ↦ inl was | inr between ↦ inr (record { history = between.history; has = between.has; is_front = between.from }) ]
