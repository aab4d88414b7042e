use Rattle.std.proofs.Common.{◌≡◌, ◌+◌, take}
use Rattle.std.specs.List.{sum_by}
use Rattle.mt_tasks.specs.Sizes.{record_size}
use Rattle.mt_tasks.proofs.sizes.records_len.Given as goal

abbrev pub invariant-loop-record : goal.invariant-loop-record
invariant-loop-record l = l.total ≡ sum_by record_size (take l.record-index l.records)
