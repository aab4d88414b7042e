-- The key of a path: its components, each behind a byte 0, as one byte string. Keys are in the order of the paths of an area.
use Rattle.std.specs.Prelude.{◌≡◌, ◌==◌, ◌<◌, ℕ, List, ◌∷◌, drop, if◌then◌else◌}
use Rattle.std.specs.List.{AllByRecursion, flat_map, slice_split}
use Rattle.mt_path.specs.AccountPath.{AccountPath, IsPath, slash}
use Rattle.mt_path.specs.declared.area.Area.{Area}

-- the components of a path
abbrev pub Parts : Type 0
Parts = List (List ℕ)

-- the key of components
abbrev pub key_bytes : Parts → List ℕ
key_bytes parts = flat_map (λ part. 0 ∷ part) parts

-- the components of a key
abbrev pub parts_of : List ℕ → Parts
parts_of key = drop 1 (slice_split (λ b. b == 0) key)

-- no byte 0 stands in it
abbrev pub IsClear : List ℕ → Type 0
IsClear part = AllByRecursion (λ b. 0 < b) part

-- the key of some components
pub record IsKey (key : List ℕ) : Type 0 where
  pub clear : AllByRecursion IsClear (parts_of key)
  pub whole : key ≡ key_bytes (parts_of key)

-- the path of an area and a key
abbrev pub path_at : Area → List ℕ → AccountPath
path_at area key = record { area = area; parts = parts_of key }

-- what a path keeps of its area and its key
pub record IsPathKey (area : Area) (key : List ℕ) : Type 0 where
  pub path : IsPath (path_at area key)
  pub whole : IsKey key

-- a byte of a key as it stands in a text: a slash for each byte 0
abbrev pub shown_byte : ℕ → ℕ
shown_byte b = if b == 0 then slash else b
