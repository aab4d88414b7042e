use Rattle.std.proofs.Common.{◌≡◌, map}
use Rattle.std.specs.List.{range_with_len}
use Rattle.mt_gen.specs.Work.{part_file}
use Rattle.mt_gen.proofs.work.split_files.Given as goal

-- the files of the first reducers
abbrev pub invariant-loop-number : goal.invariant-loop-number
invariant-loop-number l = l.files.items ≡ map (part_file l.text) (range_with_len 0 l.number)
