-- A spool in memory, as a caller sees it.
use Rattle.std.specs.Prelude.{◌≡◌, ◌==◌, ◌<◌, ℕ, false, true, List, length, map, get_or}
use Rattle.mt_spawn.specs.Spools.{SpoolFile}
use Rattle.mt_spawn.specs.declared.mem_spool.MemFile.{MemFile}

abbrev pub file_of : MemFile → SpoolFile
file_of f = record { number = f.number; bytes = f.bytes.items }

abbrev pub files_of : List MemFile → List SpoolFile
files_of fs = map file_of fs

-- the first file of a number stands at this place
pub record IsFirst (n : ℕ) (fs : List MemFile) (k : ℕ) : Type 0 where
  pub there : k < length fs
  pub is : (d : MemFile) → (n == (get_or fs k d).number) ≡ true
  pub before : (j : ℕ) (d : MemFile) → j < k → (n == (get_or fs j d).number) ≡ false
