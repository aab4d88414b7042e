-- The metadata of an object and the copies that are asked for, as the fields of its put give them.
use Rattle.std.specs.Prelude.{ℕ, Bool, true, false, ◌&&◌, nat_eq, List, filter, codes, Option, Some, None, option_and_then, if◌then◌else◌}
use Rattle.std.specs.List.{starts_with}
use Rattle.mt_bytes.specs.Decimals.{decimal_number}
use Rattle.mt_http.specs.ReplyText.{in_order}
use Rattle.mt_types.specs.Limits.{is_durability, is_metadata_name, is_plain_text}
use Rattle.mt_types.specs.declared.object.Field.{Field}

-- a field of metadata
abbrev pub is_metadata_field : Field → Bool
is_metadata_field f = starts_with nat_eq f.name (codes "m-")

abbrev pub is_metadata_fine : Field → Bool
is_metadata_fine f = is_metadata_name f.name && is_plain_text f.value

-- all fields of metadata, by name, those of one name as they came
abbrev pub metadata_of : List Field → List Field
metadata_of fields = in_order (filter is_metadata_field fields)

-- the copies that are asked for: none where there is no field; a value that is no level
abbrev pub level_of : Option (List ℕ) → Option (Option ℕ)
level_of None = Some None
level_of (Some text) = option_and_then (λ n. if is_durability n then Some (Some n) else None) (decimal_number text)

abbrev pub is_none : {A : Type 0} → Option A → Bool
is_none None = true
is_none (Some x) = false

-- the level, where there is one
abbrev pub level_in : Option (Option ℕ) → Option ℕ
level_in None = None
level_in (Some level) = level
