-- Reads behind an opening, and what a disk tells on the way.
use Rattle.std.proofs.Common.{◌≡◌, ◌≤◌, ℕ, List, [], Option, refl, ap, sym, ◌∙◌, arith}
use Rattle.std.specs.Option.{ForSome}
use Rattle.mt_base.specs.Counts.{NeverFell, Rose}
use Rattle.mt_connection.proofs.Crashes.{all_of}
use Rattle.mt_disk.specs.CrashModel.{LeavesOnly, OnlyRead}
use Rattle.mt_disk.specs.Files.{Files}
use Rattle.mt_disk.proofs.Moments.{joins, leaves_now}
use Rattle.mt_disk.proofs.Readings.{reads_leave, reads_none, reads_on}
use Rattle.mt_opening.specs.Current.{HasFront}
use Rattle.mt_opening.specs.History.{Bytes, HasHistory, History}
use Rattle.mt_opening.specs.Looking.{LogIsThere, OnlyReads}
use Rattle.mt_opening.proofs.Looks.{there_on}
use Rattle.mt_log.specs.LogImage.{SameLog}
use Rattle.mt_log.specs.LogState.{LogState, told}
use Rattle.mt_model.specs.State.{State, first_state}
use Rattle.mt_server.proofs.Opened.{same_history}

-- a count that did not fall, and then rose
pub rose_later : (a b c : ℕ) → NeverFell a b → Rose b c → Rose a c
rose_later a b c never rose = omega (arith, never, rose)

pub never_later : (a b c : ℕ) → NeverFell a b → NeverFell b c → NeverFell a c
never_later a b c first second = omega (arith, first, second)

-- a log is there still where the disk tells the same
pub log_still : {D : Type 0} (seen : D → Option Files) (a b : D) (log : LogState) → seen b ≡ seen a → LogIsThere seen a log → LogIsThere seen b log
log_still seen a b log same here = record { there = there_on seen a b log same here.there; is_open = here.is_open }

pub told_still : {D : Type 0} (seen : D → Option Files) (a b : D) (P : List (List ℕ) → Type 0) → seen b ≡ seen a → ForSome (told (seen a)) P → ForSome (told (seen b)) P
told_still seen a b P same here ps is = here ps (ap told (sym same) ∙ is)

module _ {D : Type 0} (seen : D → Option Files) (may_leave : D → Files → Type 0) (moment : D → ℕ) (left_since : D → ℕ → Files → Type 0) where
  -- a run of calls, and then of reads alone
  pub reads_behind : (old mid new : D) (P : Files → Type 0) → LeavesOnly moment left_since old mid P → OnlyRead seen may_leave moment left_since mid new
      → ((t : ℕ) (c : Files) → t ≤ moment mid → may_leave mid c → left_since mid t c) → ((c : Files) → left_since mid (moment mid) c → may_leave mid c) → LeavesOnly moment left_since old new P
  reads_behind old mid new P first run counts_now only_now =
      joins moment left_since old mid new P P P first (reads_leave seen may_leave moment left_since mid new P run only_now (leaves_now moment left_since may_leave old mid P first counts_now)) (λ c p. p) (λ c p. p)

-- files with the log of a history have it in front
pub front_of : (base : State Bytes) (h : History) (files c : Files) → HasHistory base h files → SameLog files c → HasFront base c h
front_of base h files c has same = record { history = h; has = same_history base h files c same has; is_front = all_of h }

-- and nothing in front of it
pub front_none : (k : History) (files c : Files) → HasHistory first_state k files → SameLog files c → HasFront first_state c []
front_none k files c has same = record { history = k; has = same_history first_state k files c same has; is_front = (k, refl) }

-- reads, and then others
pub reads_then : {D : Type 0} (seen : D → Option Files) (may_leave : D → Files → Type 0) (moment : D → ℕ) (left_since : D → ℕ → Files → Type 0) (count : D → ℕ) (old mid new : D) (F G : Type 0)
    → OnlyReads seen may_leave moment left_since count old mid F → OnlyReads seen may_leave moment left_since count mid new G → OnlyReads seen may_leave moment left_since count old new G
reads_then seen may_leave moment left_since count old mid new F G first second = record {
  read = reads_on seen may_leave moment left_since old mid new first.read second.read;
  disk = λ failed. rose_later (count old) (count mid) (count new) first.faults (second.disk failed);
  faults = never_later (count old) (count mid) (count new) first.faults second.faults;
}

-- the same reads, of which this says that one failed
pub reads_failed : {D : Type 0} (seen : D → Option Files) (may_leave : D → Files → Type 0) (moment : D → ℕ) (left_since : D → ℕ → Files → Type 0) (count : D → ℕ) (old new : D) (F G : Type 0) → (G → F)
    → OnlyReads seen may_leave moment left_since count old new F → OnlyReads seen may_leave moment left_since count old new G
reads_failed seen may_leave moment left_since count old new F G from reads = record { read = reads.read; disk = λ failed. reads.disk (from failed); faults = reads.faults }

-- no read
pub no_reads : {D : Type 0} (seen : D → Option Files) (may_leave : D → Files → Type 0) (moment : D → ℕ) (left_since : D → ℕ → Files → Type 0) (count : D → ℕ) (disk : D) (F : Type 0) → (F → ⊥) → OnlyReads seen may_leave moment left_since count disk disk F
no_reads seen may_leave moment left_since count disk F never = record { read = reads_none seen may_leave moment left_since disk; disk = λ failed. absurd (never failed); faults = omega arith }
