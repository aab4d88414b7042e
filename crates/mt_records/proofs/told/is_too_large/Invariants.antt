-- what is left of the room is what the files so far left of it
use Rattle.std.proofs.Common.{◌≡◌, ◌+◌, drop}
use Rattle.mt_types.specs.declared.limits.TheConstants.{LARGEST_OUTPUT}
use Rattle.mt_records.specs.Fate.{total_len}
use Rattle.mt_records.proofs.told.is_too_large.Given as goal

abbrev pub invariant-loop-file : goal.invariant-loop-file
invariant-loop-file l = l.room + (l.out + total_len l.files) ≡ LARGEST_OUTPUT + total_len (drop l.file-index l.files)
