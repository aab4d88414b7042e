-- Those so far have other numbers.
use Rattle.std.proofs.Common.{◌≡◌, ◌==◌, ◌<◌, ℕ, false, get_or}
use Rattle.mt_spawn.specs.declared.mem_spool.MemFile.{MemFile}
use Rattle.mt_spawn.proofs.mem_spool.place_of.Given as goal

abbrev pub invariant-loop-place : goal.invariant-loop-place
invariant-loop-place l = (j : ℕ) (d : MemFile) → j < l.place → (l.number == (get_or l.files j d).number) ≡ false
