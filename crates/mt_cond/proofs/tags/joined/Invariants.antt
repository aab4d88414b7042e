-- The value so far, and the values of the fields to come, are all of them joined.
use Rattle.std.proofs.Common.{◌≡◌, drop}
use Rattle.std.specs.Option.{option_map}
use Rattle.mt_types.specs.Fields.{values_of}
use Rattle.mt_cond.specs.Tags.{joined}
use Rattle.mt_cond.proofs.Joined.{joined_behind}
use Rattle.mt_cond.proofs.tags.joined.Given as goal

abbrev pub invariant-loop-field : goal.invariant-loop-field
invariant-loop-field l =
    joined_behind (option_map (λ v. v.items) l.value) (values_of l.name (drop l.field-index l.fields)) ≡ joined (values_of l.name l.fields)
