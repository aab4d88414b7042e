-- The other values are among the fields that are left.
use Rattle.std.proofs.Common.{◌≡◌, ◌+◌, ◌≤◌, drop, length}
use Rattle.mt_types.specs.Fields.{values_of}
use Rattle.mt_response.proofs.length.count_of.Given as goal

abbrev pub invariant-loop-field : goal.invariant-loop-field
invariant-loop-field l = (l.count + length (values_of l.name (drop l.field-index l.fields)) ≡ length (values_of l.name l.fields)) × (l.count ≤ l.field-index)
