-- How the rows of an account are kept: by area and components, each row beside the number of its children.
use Rattle.std.specs.Prelude.{◌≡◌, ℕ, ◌+◌, ◌-◌, Bool, List, [], ◌∷◌, ◌++◌, map, length, take, option_map, IfSome, All, is_some, if◌then◌else◌}
use Rattle.std.specs.declared.cmp.Ordering.{Ordering}
use Rattle.std.specs.BTreeMap.{is_at}
use Rattle.std.specs.Cmp.Lexicographic.{slice_cmp}
use Rattle.std.specs.Map.{lookup, keys_of}
use Rattle.std.specs.Ordering.{nat_cmp}
use Rattle.mt_path.specs.AccountPath.{AccountPath, IsPath}
use Rattle.mt_path.specs.declared.area.Area.{Area}
use Rattle.mt_path.specs.declared.area.Area.TheVariants.{Stor, Public, Jobs}
use Rattle.mt_types.specs.declared.object.Entry.{Entry}
use Rattle.mt_types.specs.declared.object.Entry.TheVariants.{Directory}
use Rattle.mt_model.specs.Rows.{Rows, is_directory, is_path, children, IsTree}
use Rattle.mt_tree.specs.declared.kept.KeptRow.{KeptRow}
use Rattle.mt_path.specs.Keys.{Parts}

-- component by component, each by its bytes
abbrev pub parts_cmp : Parts → Parts → Ordering
parts_cmp = slice_cmp (slice_cmp nat_cmp)

-- two paths of one area are one
abbrev pub is_key : Parts → Parts → Bool
is_key parts = is_at (parts_cmp parts)

-- the components of the path above
abbrev pub parts_above : Parts → Parts
parts_above parts = take (length parts - 1) parts

module _ {X : Type 0} where
  -- the rows of one area, with their paths
  abbrev pub in_area : Area → List (Parts × X) → List (AccountPath × X)
  in_area area entries = map (λ e. (record { area = area; parts = e.0 }, e.1)) entries

  -- those of the three areas, in the order of the areas
  abbrev pub joined : List (Parts × X) → List (Parts × X) → List (Parts × X) → List (AccountPath × X)
  joined stor public jobs = in_area Stor stor ++ (in_area Public public ++ in_area Jobs jobs)

-- with another value at the first entry whose key passes
abbrev pub changed : {K X : Type 0} → (K → Bool) → (X → X) → List (K × X) → List (K × X)
changed test f [] = []
changed test f (e ∷ es) = if test e.0 then (e.0, f e.1) ∷ es else e ∷ changed test f es

module _ {B : Type 0} where
  -- one child more, and one less
  abbrev pub raised : KeptRow B → KeptRow B
  raised row = record row { children = row.children + 1 }

  abbrev pub lowered : KeptRow B → KeptRow B
  lowered row = record row { children = row.children - 1 }

  -- a row that has no child yet
  abbrev pub childless : Entry B → KeptRow B
  childless entry = record { entry = entry; children = 0 }

  -- a root without children, made at moment 0
  abbrev pub IsRootAlone : List (Parts × KeptRow B) → Type 0
  IsRootAlone es = es ≡ ([], childless (Directory 0)) ∷ []

  -- with one child more at the path above, where no row stood at the path
  abbrev pub made_room : Parts → List (Parts × KeptRow B) → List (Parts × KeptRow B)
  made_room parts es = if is_some (lookup (is_key parts) es) then es else changed (is_key (parts_above parts)) raised es

  -- a directory stands at these components
  abbrev pub has_directory : Parts → List (Parts × KeptRow B) → Bool
  has_directory parts es = is_directory (option_map (λ row. row.entry) (lookup (is_key parts) es))

  -- the rows, without the numbers
  abbrev pub rows_of : List (AccountPath × KeptRow B) → Rows B
  rows_of kept = map (λ k. (k.0, k.1.entry)) kept

  -- the numbers of children
  abbrev pub numbers_of : List (AccountPath × KeptRow B) → List (AccountPath × ℕ)
  numbers_of kept = map (λ k. (k.0, k.1.children)) kept

  -- each number is that of the rows one below
  abbrev pub AreCounts : Rows B → List (AccountPath × ℕ) → Type 0
  AreCounts rows numbers = (p : AccountPath) → IfSome (lookup (is_path p) numbers) (λ n. n ≡ length (children rows p))

  -- what every tree keeps
  pub record IsKept (kept : List (AccountPath × KeptRow B)) : Type 0 where
    pub tree : IsTree (rows_of kept)
    pub paths : All IsPath (keys_of (rows_of kept))
    pub counts : AreCounts (rows_of kept) (numbers_of kept)
