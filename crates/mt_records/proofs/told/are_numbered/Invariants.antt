-- the rest decides it
use Rattle.std.proofs.Common.{◌≡◌, drop}
use Rattle.mt_records.specs.Fate.{are_numbered}
use Rattle.mt_records.proofs.told.are_numbered.Given as goal

abbrev pub invariant-loop-file : goal.invariant-loop-file
invariant-loop-file l = are_numbered l.least (drop l.file-index l.files) ≡ are_numbered 0 l.files
