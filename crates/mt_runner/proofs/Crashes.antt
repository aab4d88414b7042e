-- What a crash may leave at the end of a turn.
use Rattle.std.proofs.Common.{◌≡◌, ◌≤◌, ℕ, ◌+◌, List, [], ◌∷◌, ◌++◌, length, Option, Some, None, Ok, Bool, true, false, refl, ap, sym, subst, ◌∙◌, arith, append-nil, append_assoc, length-append}
use Rattle.std.specs.Prelude.{is_some}
use Rattle.mt_base.specs.Lists.{IsPrefixOf}
use Rattle.mt_disk.specs.CrashModel.{LeavesOnly, OnlyRead}
use Rattle.mt_disk.specs.Files.{Files}
use Rattle.mt_disk.proofs.Moments.{joins}
use Rattle.mt_disk.proofs.Readings.{reads_leave, reads_none}
use Rattle.mt_log.specs.LogImage.{chosen_by, payloads_of}
use Rattle.mt_log.specs.LogState.{Stands}
use Rattle.mt_log.proofs.Standing.{log_is}
use Rattle.mt_log.proofs.Walks.{read_by}
use Rattle.mt_opening.specs.Current.{EngineState, HasNearly, IsBetween, IsCurrent, Over}
use Rattle.mt_opening.specs.History.{Bytes, HasHistory, History}
use Rattle.mt_model.specs.State.{State}

pub all_of : (h : History) → IsPrefixOf h h
all_of h = ([], append-nil h)

-- the files that an engine is current over have its history
has_history : (seen : Option Files) (engine : EngineState) (base : State Bytes) (h : History) → (i : IsCurrent seen engine base h) → HasHistory base h i.is_read.files
has_history seen engine base h i = record {
  ps = payloads_of i.is_read.files;
  read = log_is i.is_read.files engine.log i.is_read.log false ∙ ap (λ (old : Bool). read_by false old (Ok (payloads_of i.is_read.files))) i.version;
  fit = λ empty. let no : None ≡ Some engine.log.file = sym (ap (λ (head : List ℕ). chosen_by head i.is_read.files.two) empty) ∙ i.is_read.log.is_chosen in absurd (cc);
  is = i.is_read.history;
}

abbrev pub or_else : Files → Option Files → Files
or_else files None = files
or_else files (Some other) = other

-- each image of a disk whose engine is open has its history
pub images_open : {D : Type 0} (seen : D → Option Files) (may_leave : D → Files → Type 0) (disk : D) (engine : EngineState) (base : State Bytes) (k : History)
    → Stands seen may_leave disk engine.log → engine.log.closed ≡ false → Over (seen disk) engine base k → is_some (seen disk) ≡ true → (c : Files) → may_leave disk c → HasHistory base k c
images_open seen may_leave disk engine base k stands is_open over knows c image = told (seen disk) refl
  where
    told : (o : Option Files) → seen disk ≡ o → HasHistory base k c
    told None is = let no : false ≡ true = sym (ap is_some is) ∙ knows in absurd (cc)
    told (Some files) is =
        let i = over files is in
        let same : i.is_read.files ≡ files = ap (or_else files) (sym i.is_read.seen_is ∙ is) in
        subst (λ (x : Files). HasHistory base k x) (same ∙ sym ((stands is_open files is).0 c image)) (has_history (seen disk) engine base k i)

no_longer : (h : History) (q : History) (g : History) → g ++ q ≡ h → length h ≤ length g → g ≡ h
no_longer h [] g is short = sym (append-nil g) ∙ is
no_longer h (x ∷ q) g is short = let long : length (g ++ x ∷ q) ≡ length h = ap length is in let all : length (g ++ x ∷ q) ≡ length g + length (x ∷ q) = length-append g (x ∷ q) in absurd (omega (arith, long, all, short))

front_length : (h g : History) → IsPrefixOf h g → length h ≤ length g
front_length h g front = let long : length (h ++ front.0) ≡ length g = ap length front.1 in let all = length-append h front.0 in omega (arith, long, all)

-- what is between one history and itself has it
pub only_between : (base : State Bytes) (h : History) (c : Files) → IsBetween base h h c → HasHistory base h c
only_between base h c i = subst (λ (g : History). HasHistory base g c) (no_longer h i.to.0 i.history i.to.1 (front_length h i.history i.from)) i.has

-- what is between a history and one with a command more has all of it but its last
pub nearly_between : (base : State Bytes) (h k : History) (c : Files) → length k ≤ length h + 1 → IsBetween base h k c → HasNearly base k c
nearly_between base h k c short i = record { history = i.history; has = i.has; front = i.to; last = let long = front_length h i.history i.from in omega (arith, short, long) }

pub between_all : (base : State Bytes) (h k : History) (c : Files) → IsPrefixOf h k → HasHistory base k c → IsBetween base h k c
between_all base h k c front has = record { history = k; has = has; from = front; to = all_of k }

pub between_first : (base : State Bytes) (h k : History) (c : Files) → IsPrefixOf h k → HasHistory base h c → IsBetween base h k c
between_first base h k c front has = record { history = h; has = has; from = all_of h; to = front }

pub front_of_front : (h m k : History) → IsPrefixOf h m → IsPrefixOf m k → IsPrefixOf h k
front_of_front h m k a b = (a.0 ++ b.0, sym (append_assoc h a.0 b.0) ∙ (ap (λ (x : History). x ++ b.0) a.1 ∙ b.1))

-- more may come behind, and came before
pub between_to : (base : State Bytes) (h m k : History) (c : Files) → IsPrefixOf m k → IsBetween base h m c → IsBetween base h k c
between_to base h m k c more b = record { history = b.history; has = b.has; from = b.from; to = front_of_front b.history m k b.to more }

pub between_from : (base : State Bytes) (h m k : History) (c : Files) → IsPrefixOf h m → IsBetween base m k c → IsBetween base h k c
between_from base h m k c more b = record { history = b.history; has = b.has; from = front_of_front h m b.history more b.from; to = b.to }

-- where nothing is done, each image is the same
pub unmoved : {D : Type 0} (seen : D → Option Files) (may_leave : D → Files → Type 0) (moment : D → ℕ) (left_since : D → ℕ → Files → Type 0) (disk : D) (engine : EngineState) (base : State Bytes) (h : History)
    → ((c : Files) → left_since disk (moment disk) c → may_leave disk c) → Stands seen may_leave disk engine.log → engine.log.closed ≡ false → Over (seen disk) engine base h → is_some (seen disk) ≡ true
    → LeavesOnly moment left_since disk disk (IsBetween base h h)
unmoved seen may_leave moment left_since disk engine base h only_now stands is_open over knows =
    reads_leave seen may_leave moment left_since disk disk (IsBetween base h h) (reads_none seen may_leave moment left_since disk) only_now
    (λ c image. between_all base h h c (all_of h) (images_open seen may_leave disk engine base h stands is_open over knows c image))

-- where the disk was only read
pub only_read : {D : Type 0} (seen : D → Option Files) (may_leave : D → Files → Type 0) (moment : D → ℕ) (left_since : D → ℕ → Files → Type 0) (old mid new : D) (engine : EngineState) (base : State Bytes) (h k : History)
    → ((c : Files) → left_since mid (moment mid) c → may_leave mid c) → Stands seen may_leave mid engine.log → engine.log.closed ≡ false → Over (seen mid) engine base k → is_some (seen mid) ≡ true
    → IsPrefixOf h k → LeavesOnly moment left_since old mid (IsBetween base h k) → OnlyRead seen may_leave moment left_since mid new → LeavesOnly moment left_since old new (IsBetween base h k)
only_read seen may_leave moment left_since old mid new engine base h k only_now stands is_open over knows front before read =
    joins moment left_since old mid new (IsBetween base h k) (IsBetween base h k) (IsBetween base h k) before
    (reads_leave seen may_leave moment left_since mid new (IsBetween base h k) read only_now (λ c image. between_all base h k c front (images_open seen may_leave mid engine base k stands is_open over knows c image)))
    (λ c b. b) (λ c b. b)

-- what a crash may leave now was left at some moment
pub left_now : {D : Type 0} (may_leave : D → Files → Type 0) (moment : D → ℕ) (left_since : D → ℕ → Files → Type 0) (old new : D) (base : State Bytes) (h k : History)
    → ((t : ℕ) (c : Files) → t ≤ moment new → may_leave new c → left_since new t c) → LeavesOnly moment left_since old new (IsBetween base h k) → (c : Files) → may_leave new c → IsBetween base h k c
left_now may_leave moment left_since old new base h k counts_now run c image = run.each c (counts_now (moment old) c run.later image)
