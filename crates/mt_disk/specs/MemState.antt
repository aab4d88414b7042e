-- What callers see of a disk in memory.
use Rattle.std.specs.Prelude.{◌≡◌, ◌-◌, ◌++◌, ℕ, List, [], length, replicate}
use Rattle.mt_disk.specs.Files.{Files}
use Rattle.mt_disk.specs.Calls.{DiskCall, Left}

-- the contents of three files, and the room that each of them has
pub record Held : Type 0 where
  pub files : Files
  pub room : ℕ

-- zeros up to a length, where there are fewer bytes
abbrev pub padded : List ℕ → ℕ → List ℕ
padded bytes to = bytes ++ replicate (to - length bytes) 0

-- what it held at first, the calls that changed something, the newest first, the faults, and the number of all calls
pub record MemState : Type 0 where
  pub base : Files
  pub past : List DiskCall
  pub faults : ℕ
  pub calls : ℕ

-- a disk at rest that holds these files, before the first call
abbrev pub fresh : Files → MemState
fresh files = record { base = files; past = []; faults = 0; calls = 0 }

-- after a crash the disk is at rest at an image that might be left; the counts go on
pub record IsLeftBy (old new : MemState) : Type 0 where
  pub image : Left old.base old.past new.base
  pub at_rest : new.past ≡ []
  pub faults : new.faults ≡ old.faults
  pub calls : new.calls ≡ old.calls
