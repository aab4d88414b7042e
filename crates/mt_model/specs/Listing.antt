-- A page of a directory.
use Rattle.std.specs.Prelude.{ℕ, ◌-◌, Bool, List, [], length, take, slice_index_or}
use Rattle.std.specs.Cmp.Lexicographic.{slice_cmp}
use Rattle.std.specs.List.{filter}
use Rattle.std.specs.Ordering.{nat_cmp, is_le}
use Rattle.mt_model.specs.Types.{AccountPath}
use Rattle.mt_model.specs.Rows.{Rows, children}

-- the last component of a path; of a root, no bytes
abbrev pub name_of : AccountPath → List ℕ
name_of p = slice_index_or p.parts (length p.parts - 1) []

-- the name of a path is not below the marker, byte by byte
abbrev pub is_from : List ℕ → AccountPath → Bool
is_from marker p = is_le (slice_cmp nat_cmp marker (name_of p))

module _ {B : Type 0} where
  -- at most `limit` children of a directory, from the first whose name is not below the marker
  abbrev pub listing : Rows B → AccountPath → List ℕ → ℕ → Rows B
  listing rows d marker limit = take limit (filter (λ r. is_from marker r.0) (children rows d))

  -- the number of all its children
  abbrev pub result_set_size : Rows B → AccountPath → ℕ
  result_set_size rows d = length (children rows d)
