-- Walks over the rows.
use Rattle.std.specs.Prelude.{ℕ, ◌+◌, ◌-◌, ◌==◌, ◌&&◌, Bool, nat_eq, nat_le, List, [], ◌∷◌, ◌++◌, length, take, drop, position, slice_index_or, Option, Some, None, if◌then◌else◌}
use Rattle.std.specs.Cmp.Lexicographic.{pointwise, slice_cmp}
use Rattle.std.specs.List.{filter, starts_with}
use Rattle.std.specs.Ordering.{is_le, is_lt, nat_cmp}
use Rattle.mt_path.specs.AccountPath.{AccountPath}
use Rattle.mt_path.specs.PathOrder.{path_cmp}
use Rattle.mt_path.specs.declared.area.Area.{Area}
use Rattle.mt_types.specs.declared.object.Entry.{Entry}
use Rattle.mt_types.specs.declared.object.Row.{Row}
use Rattle.mt_model.specs.Listing.{name_of}
use Rattle.mt_model.specs.Rows.{Rows}
use Rattle.mt_tree.specs.declared.kept.KeptRow.{KeptRow}
use Rattle.mt_path.specs.Keys.{Parts}
use Rattle.mt_tree.specs.declared.listing.Place.{Place}
use Rattle.mt_tree.specs.declared.listing.Place.TheVariants.{Outside, Child, Below}

module _ {B : Type 0} where
  -- the rows above a path, in the order of their paths, or all rows
  abbrev pub rows_after : Option AccountPath → Rows B → Rows B
  rows_after None rows = rows
  rows_after (Some p) rows = filter (λ r. is_lt (path_cmp p r.0)) rows

-- the second begins with the first
abbrev pub begins : Parts → Parts → Bool
begins dir parts = nat_le (length dir) (length parts) && pointwise (pointwise ◌==◌) (take (length dir) parts) dir

-- the last component; of none, no bytes
abbrev pub last_of : Parts → List ℕ
last_of parts = slice_index_or parts (length parts - 1) []

-- the second is the first and one component more
abbrev pub is_one_below : Parts → Parts → Bool
is_one_below dir parts = (length parts == length dir + 1) && pointwise (pointwise ◌==◌) (take (length dir) parts) dir

-- the last component is not below the marker
abbrev pub is_from_name : List ℕ → Parts → Bool
is_from_name marker parts = is_le (slice_cmp nat_cmp marker (last_of parts))

module _ {B : Type 0} where
  -- what a page gives of a row: its name, and what stands there
  abbrev pub listed_row : AccountPath × Entry B → List ℕ × Entry B
  listed_row r = (name_of r.0, r.1)

  -- the same, by the components
  abbrev pub lent_row : Parts × KeptRow B → List ℕ × Entry B
  lent_row r = (last_of r.0, r.1.entry)

module _ {X : Type 0} where
  -- the rows one below a directory
  abbrev pub below_by_one : List (Parts × X) → Parts → List (Parts × X)
  below_by_one rows dir = filter (λ r. is_one_below dir r.0) rows

  -- a page of a directory, by the components
  abbrev pub page_of : List (Parts × X) → Parts → List ℕ → ℕ → List (Parts × X)
  page_of rows dir marker limit = take limit (filter (λ r. is_from_name marker r.0) (below_by_one rows dir))

-- above each name that begins with a name, and below the other names above it
abbrev pub next_name : List ℕ → List ℕ
next_name name = name ++ 1 ∷ []

-- a marker up to its first byte 0, for which a 1 stands: the same names are below it, as no byte of a name is 0
abbrev pub cleared : List ℕ → List ℕ
cleared [] = []
cleared (b ∷ bytes) = if b == 0 then 1 ∷ [] else b ∷ cleared bytes

-- what follows the front of a key is a name, or a name and what is below it
abbrev pub name_in : ℕ → Option ℕ → Place
name_in front None = Child
name_in front (Some at) = Below (front + at)

-- where a key stands, beside those that have this front
abbrev pub place_in : List ℕ → List ℕ → Place
place_in front key =
    if starts_with nat_eq key front then name_in (length front) (position (λ b. b == 0) (drop (length front) key)) else Outside

-- a row as a listing shows it
abbrev pub shown : {B : Type 0} → Area → Parts → Entry B → Row B
shown area parts entry = record { path = record { area = area; parts = parts }; entry = entry }
