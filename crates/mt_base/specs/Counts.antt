-- Counts of faults and of waits: they never fall, and one that stands at 2 ^ 64 - 1 counts as risen, by any number.
use Rattle.std.specs.Prelude.{ℕ, ◌+◌, ◌≤◌, min, Result, OnErr}

-- the count rose by at least this number, or stands at its end
abbrev pub RoseBy : ℕ → ℕ → ℕ → Type 0
RoseBy n before now = min 18446744073709551615 (before + n) ≤ now

-- it rose
abbrev pub Rose : ℕ → ℕ → Type 0
Rose before now = RoseBy 1 before now

-- it did not fall
abbrev pub NeverFell : ℕ → ℕ → Type 0
NeverFell before now = RoseBy 0 before now

-- the count did not fall, and an `Err` comes only where it rose
pub record HasCause {T E : Type 0} (before now : ℕ) (result : Result T E) : Type 0 where
  pub later : NeverFell before now
  pub failed : OnErr result (Rose before now)
