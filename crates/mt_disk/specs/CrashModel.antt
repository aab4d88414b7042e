-- What the calls of a disk do to its files, and what a crash may do between two syncs.
use Rattle.std.specs.Prelude.{◌≡◌, ◌⊎◌, ℕ, ◌+◌, ◌≤◌, min, max, List, length, take, drop, Option}
use Rattle.std.specs.Option.{ForSome}
use Rattle.mt_disk.specs.declared.disk.FileNo.{FileNo}
use Rattle.mt_disk.specs.Files.{Files, contents, with_contents}

-- after a write of n bytes that a crash cuts short: any bytes in the range and past the old end, the same elsewhere.
-- An image may end before the write begins, where an earlier write wasn't synced: then what lies between may be any bytes too.
pub record Torn (at n : ℕ) (old new : List ℕ) : Type 0 where
  pub before : take (min at (length old)) new ≡ take at old
  pub after : drop (at + n) new ≡ drop (at + n) old
  pub no_shorter : length old ≤ length new
  pub no_longer : length new ≤ max (length old) (at + n)

-- a cut has happened or not
abbrev pub MaybeCut : ℕ → List ℕ → List ℕ → Type 0
MaybeCut n old new = (new ≡ old) ⊎ (new ≡ take n old)

-- one file takes a step, the others stay
pub record OnFile (file : FileNo) (step : List ℕ → List ℕ → Type 0) (old new : Files) : Type 0 where
  pub stepped : step (contents old file) (contents new file)
  pub others : new ≡ with_contents old file (contents new file)

-- each new outcome of a crash is an old outcome after a step
abbrev pub Follows : (Files → Files → Type 0) → (Files → Type 0) → (Files → Type 0) → Type 0
Follows step old new = (c : Files) → new c → (d : Files) × old d × step d c

-- a crash leaves the same as before
pub record SameImages (old new : Files → Type 0) : Type 0 where
  pub none_more : (c : Files) → new c → old c
  pub none_less : (c : Files) → old c → new c

-- a crash leaves this and nothing else
abbrev pub Only : Files → (Files → Type 0) → Type 0
Only files outcomes = (c : Files) → outcomes c → c ≡ files

-- what is asked of a disk that tells what it holds
abbrev pub IsAtRest : {D : Type 0} → (D → Option Files) → (D → Files → Type 0) → D → Type 0
IsAtRest seen may_leave disk = ForSome (seen disk) (λ files. Only files (may_leave disk))

-- Time goes on: a crash since t might have left what it might have left before, or what it may leave now.
pub record Elapses (before now : ℕ) (past since : ℕ → Files → Type 0) (may_leave : Files → Type 0) : Type 0 where
  pub later : before ≤ now
  pub nothing_else : (t : ℕ) (c : Files) → t ≤ before → since t c → past t c ⊎ may_leave c
  pub keeps : (t : ℕ) (c : Files) → t ≤ before → past t c → since t c

-- A crash at any moment since old leaves files that have P.
pub record LeavesOnly {D : Type 0} (moment : D → ℕ) (left_since : D → ℕ → Files → Type 0) (old new : D) (P : Files → Type 0) : Type 0 where
  pub later : moment old ≤ moment new
  pub each : (c : Files) → left_since new (moment old) c → P c
  -- for a run that began earlier
  pub before : (t : ℕ) (c : Files) → t ≤ moment old → left_since new t c → left_since old t c ⊎ P c

-- Nothing was written: a read gives the same, and a crash leaves nothing new, now or at any moment since old.
pub record Untouched {D : Type 0} (seen : D → Option Files) (may_leave : D → Files → Type 0) (moment : D → ℕ) (left_since : D → ℕ → Files → Type 0) (old new : D) : Type 0 where
  pub seen_same : seen new ≡ seen old
  pub none_new : (c : Files) → may_leave new c → may_leave old c
  pub any_moment : LeavesOnly moment left_since old new (may_leave old)

-- Nothing was written: what a read gives and what a crash now may leave is as before, while time goes on.
pub record OnlyRead {D : Type 0} (seen : D → Option Files) (may_leave : D → Files → Type 0) (moment : D → ℕ) (left_since : D → ℕ → Files → Type 0) (old new : D) : Type 0 where
  pub seen_same : seen new ≡ seen old
  pub images : SameImages (may_leave old) (may_leave new)
  pub time : Elapses (moment old) (moment new) (left_since old) (left_since new) (may_leave new)
