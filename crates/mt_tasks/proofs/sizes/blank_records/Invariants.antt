use Rattle.std.proofs.Common.{◌≡◌, map, take}
use Rattle.mt_types.specs.Values.{record_with}
use Rattle.mt_tasks.specs.declared.sizes.TheConstants.{NO_BODY}
use Rattle.mt_tasks.proofs.sizes.blank_records.Given as goal

abbrev pub invariant-loop-record : goal.invariant-loop-record
invariant-loop-record l = l.blanks.items ≡ map (record_with (λ b. NO_BODY)) (take l.record-index l.records)
