-- An account at one moment of a run: its history, its log, and the counts that are no link's.
use Rattle.std.specs.Prelude.{ℕ, ◌+◌, ◌≤◌, min, Bool, false, true}
use Rattle.mt_base.specs.Counts.{NeverFell}
use Rattle.mt_spawn.specs.Children.{Seen}
use Rattle.mt_opening.specs.History.{History}

-- how tasks stand: how often their spawner failed, how often they had to wait, and how many ran side by side, summed up
pub record Tasks : Type 0 where
  pub faults : ℕ
  pub waits : ℕ
  pub company : ℕ

abbrev pub tasks_of : {F : Type 0} → Seen F → Tasks
tasks_of seen = record { faults = seen.faults; waits = seen.waits; company = seen.company }

pub record AccountSide : Type 0 where
  -- the commands behind the base
  pub history : History
  -- the bytes of the log, where the disk tells what it holds; else 0
  pub used : ℕ
  pub disk_faults : ℕ
  -- the disk's moment, where it told at the beginning what it held; else 0
  pub time : ℕ
  -- how often the clock was asked
  pub asked : ℕ
  pub tasks : Tasks

abbrev pub account_side : History → (used disk_faults time asked : ℕ) → Tasks → AccountSide
account_side history used disk_faults time asked tasks =
    record { history = history; used = used; disk_faults = disk_faults; time = time; asked = asked; tasks = tasks }

-- a disk's moment, where it told at the beginning of a run what it held
abbrev pub told_time : Bool → ℕ → ℕ
told_time false moment = 0
told_time true moment = moment

-- the count of a clock once it was asked again: it ends at 2 ^ 64 - 1
abbrev pub asked_again : ℕ → ℕ
asked_again n = min 18446744073709551615 (n + 1)

-- no count fell
pub record NoCountFell (old new : AccountSide) : Type 0 where
  pub disk : NeverFell old.disk_faults new.disk_faults
  pub time : old.time ≤ new.time
  pub asked : NeverFell old.asked new.asked
  pub spawn : NeverFell old.tasks.faults new.tasks.faults
  pub waits : NeverFell old.tasks.waits new.tasks.waits
  pub company : NeverFell old.tasks.company new.tasks.company
