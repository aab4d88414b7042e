use Rattle.std.proofs.Common.{◌≡◌, ◌-◌, ◌≤◌, [], get_or}
use Rattle.mt_split.specs.Partition.{fields_of}
use Rattle.mt_split.proofs.key.field.Given as goal

abbrev pub invariant-loop-k : goal.invariant-loop-k
invariant-loop-k l = get_or (fields_of l.delimiter l.rest) (l.number - l.k) [] ≡ get_or (fields_of l.delimiter l.bytes) (l.number - 1) []
