-- Clocks in memory, as their users see them.
use Rattle.std.specs.Prelude.{ℕ, List, get_or}

-- a clock that stands: its one moment, and how often it was asked
pub record FixedState : Type 0 where
  pub moment : ℕ
  pub asked : ℕ

-- the moments of a clock in memory: those of its first calls, and that of each later call
pub record Moments : Type 0 where
  pub listed : List ℕ
  pub later : ℕ

-- the moment of the call of a number, counted from 0: past the list's end it is the later one
abbrev pub moment_at : Moments → ℕ → ℕ
moment_at moments n = get_or moments.listed n moments.later

-- a clock in memory: its moments, and how often it was asked
pub record ClockState : Type 0 where
  pub moments : Moments
  pub asked : ℕ
