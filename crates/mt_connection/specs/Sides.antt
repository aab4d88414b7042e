-- What serving a connection may change, at one moment: a link and an account.
use Rattle.std.specs.Prelude.{ℕ, Option}
use Rattle.mt_base.specs.Counts.{NeverFell}
use Rattle.mt_disk.specs.Files.{Files}
use Rattle.mt_opening.specs.Current.{EngineState, told_size}
use Rattle.mt_opening.specs.History.{Bytes, History}
use Rattle.mt_runner.specs.Account.{AccountSide, NoCountFell, Tasks, account_side}

-- a link at one moment: what is left to be read and what was written, where it tells them, and how often each failed
pub record LinkSide : Type 0 where
  pub left : Option Bytes
  pub got : Option Bytes
  pub read_faults : ℕ
  pub write_faults : ℕ

abbrev pub link_side : (left got : Option Bytes) (read_faults write_faults : ℕ) → LinkSide
link_side left got read_faults write_faults = record { left = left; got = got; read_faults = read_faults; write_faults = write_faults }

-- how a link is read from and written to
abbrev pub side_of : {L : Type 0} → (left got : L → Option Bytes) (read_faults write_faults : L → ℕ) → L → LinkSide
side_of left got read_faults write_faults link = link_side (left link) (got link) (read_faults link) (write_faults link)

-- a link and an account
pub record Sides : Type 0 where
  -- what is left to be read and what was written, where the link tells them
  pub left : Option Bytes
  pub got : Option Bytes
  -- the commands behind the base
  pub history : History
  -- the bytes of the log, where the disk tells what it holds; else 0
  pub used : ℕ
  pub read_faults : ℕ
  pub write_faults : ℕ
  pub disk_faults : ℕ
  -- the disk's moment, where it tells what it holds; else 0
  pub time : ℕ
  -- how often the clock was asked
  pub asked : ℕ
  pub tasks : Tasks

abbrev pub joined : LinkSide → AccountSide → Sides
joined link account = record {
  left = link.left;
  got = link.got;
  history = account.history;
  used = account.used;
  read_faults = link.read_faults;
  write_faults = link.write_faults;
  disk_faults = account.disk_faults;
  time = account.time;
  asked = account.asked;
  tasks = account.tasks;
}

abbrev pub account_of : Sides → AccountSide
account_of s = account_side s.history s.used s.disk_faults s.time s.asked s.tasks

abbrev pub link_of : Sides → LinkSide
link_of s = link_side s.left s.got s.read_faults s.write_faults

-- no count fell
pub record NoneFell (old new : Sides) : Type 0 where
  pub read : NeverFell old.read_faults new.read_faults
  pub write : NeverFell old.write_faults new.write_faults
  pub account : NoCountFell (account_of old) (account_of new)

-- a link, a history, the disk that holds it with its engine, and the clock
abbrev pub sides : LinkSide → History → Option Files → (disk_faults time asked : ℕ) → EngineState → Tasks → Sides
sides link history seen disk_faults time asked engine tasks = joined link (account_side history (told_size seen engine) disk_faults time asked tasks)
