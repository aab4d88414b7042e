-- How the fields that many commands have are spelled. Numbers are big-endian.
use Rattle.std.specs.Prelude.{ℕ, List, [], ◌∷◌, ◌++◌, length, Option, Some, None}
use Rattle.std.specs.List.{flat_map}
use Rattle.mt_base.specs.Numbers.{big_endian_16, big_endian_32, big_endian_64}
use Rattle.mt_path.specs.AccountPath.{AccountPath, area_number}
use Rattle.mt_types.specs.declared.body.Body.{Body}

-- two bytes of length, and so many bytes
abbrev pub text_spelling : List ℕ → List ℕ
text_spelling bytes = big_endian_16 (length bytes) ++ bytes

-- four bytes of length, and so many bytes
abbrev pub long_text_spelling : List ℕ → List ℕ
long_text_spelling bytes = big_endian_32 (length bytes) ++ bytes

-- the number of the area, two bytes with the number of components, and each as a text
unfoldable pub path_spelling : AccountPath → List ℕ
path_spelling p = area_number p.area ∷ (big_endian_16 (length p.parts) ++ flat_map text_spelling p.parts)

-- the place of the first piece, and the length; the digest is not spelled
abbrev pub body_spelling : Body → List ℕ
body_spelling b = big_endian_64 b.first ++ big_endian_64 b.len

-- 0, or 1 and the field
abbrev pub optional_spelling : {A : Type 0} → (A → List ℕ) → Option A → List ℕ
optional_spelling spelling None = 0 ∷ []
optional_spelling spelling (Some x) = 1 ∷ spelling x
