-- The fields of one name, in order (RFC 9110, section 5.2). A field's name is in lower case.
use Rattle.std.specs.Prelude.{ℕ, Bool, bytes_eq, if◌then◌else◌, List, [], ◌∷◌, map, filter, Option, Some, None}
use Rattle.mt_types.specs.declared.object.Field.{Field}

-- the field has this name
abbrev pub is_named : List ℕ → Field → Bool
is_named name field = bytes_eq field.name name

-- the values of the fields of this name
abbrev pub values_of : List ℕ → List Field → List (List ℕ)
values_of name fields = map (λ f. f.value) (filter (is_named name) fields)

-- the value of the first field of this name
abbrev pub first_value : List ℕ → List Field → Option (List ℕ)
first_value name [] = None
first_value name (f ∷ fields) = if is_named name f then Some f.value else first_value name fields
