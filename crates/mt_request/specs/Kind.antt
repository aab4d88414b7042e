-- What a PUT makes, by its Content-Type.
use Rattle.std.specs.Prelude.{ℕ, not, ◌||◌, List, map, filter, codes, bytes_eq, Option, Some, None, if◌then◌else◌}
use Rattle.std.specs.Char.{to_ascii_lowercase}
use Rattle.mt_base.specs.Blanks.{is_blank}
use Rattle.mt_request.specs.declared.kind.Kind.{Kind}
use Rattle.mt_request.specs.declared.kind.Kind.TheVariants.{Object, Directory, Link}

-- a value without its spaces and tabs, in lower case
abbrev pub bare : List ℕ → List ℕ
bare value = map to_ascii_lowercase (filter (λ b. not (is_blank b)) value)

abbrev pub kind_named : List ℕ → Kind
kind_named name =
    if bytes_eq name (codes "application/json;type=directory") || bytes_eq name (codes "application/x-json-stream;type=directory") then Directory
    else (if bytes_eq name (codes "application/json;type=link") then Link else Object)

-- a directory, a link, or an object, also where there is no value
abbrev pub kind_of : Option (List ℕ) → Kind
kind_of None = Object
kind_of (Some value) = kind_named (bare value)

-- the content type of an object
abbrev pub type_of : Option (List ℕ) → List ℕ
type_of None = codes "application/octet-stream"
type_of (Some value) = value
