-- The first value is among the fields that are left.
use Rattle.std.proofs.Common.{◌≡◌, drop}
use Rattle.mt_types.specs.Fields.{first_value}
use Rattle.mt_types.proofs.fields.first_value.Given as goal

abbrev pub invariant-loop-field : goal.invariant-loop-field
invariant-loop-field l = first_value l.name (drop l.field-index l.fields) ≡ first_value l.name l.fields
