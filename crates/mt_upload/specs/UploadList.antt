-- The uploads of an account as they are held, and where one stands among them by its number.
use Rattle.std.specs.Prelude.{◌≡◌, ℕ, ◌==◌, ◌<◌, ◌≤◌, Bool, false, ◌&&◌, List, All, length, map, slice_get, slice_index_or}
use Rattle.std.specs.List.Sorted.{IsStrictlySortedBy}
use Rattle.std.specs.Option.{option_map_or}
use Rattle.std.specs.Ordering.{nat_cmp}
use Rattle.mt_types.specs.declared.upload.PartRow.{PartRow}
use Rattle.mt_types.specs.declared.upload.Upload.{Upload}

module _ {B : Type 0} where
  -- the numbers of uploads
  abbrev pub numbers_of : List (Upload B) → List ℕ
  numbers_of uploads = map (λ u. u.number) uploads

  -- the indexes of parts
  abbrev pub indexes_of : List (PartRow B) → List ℕ
  indexes_of parts = map (λ p. p.index) parts

  -- the numbers rise, and in each upload the indexes of its parts
  pub record IsUploads (uploads : List (Upload B)) : Type 0 where
    pub rising : IsStrictlySortedBy nat_cmp (numbers_of uploads)
    pub parts : All (λ u. IsStrictlySortedBy nat_cmp (indexes_of u.parts)) uploads

  -- the part at this place has it for its index, and this number
  abbrev pub stands_at : List (PartRow B) → ℕ × ℕ → Bool
  stands_at parts l = option_map_or (λ p. (p.index == l.0) && (p.number == l.1)) (slice_get parts l.0) false

module _ {X : Type 0} (key : X → ℕ) (xs : List X) (n : ℕ) where
  -- the value of this key stands at this place: below it are those of lesser keys, above it those of greater ones
  pub record IsPlaceOf (place : ℕ) : Type 0 where
    pub within : place < length xs
    pub here : (d : X) → key (slice_index_or xs place d) ≡ n
    pub below : (k : ℕ) (d : X) → k < place → key (slice_index_or xs k d) < n
    pub above : (k : ℕ) (d : X) → place < k → k < length xs → n < key (slice_index_or xs k d)

  -- no value has this key, and one that had it would stand at this place
  pub record IsGapFor (place : ℕ) : Type 0 where
    pub within : place ≤ length xs
    pub below : (k : ℕ) (d : X) → k < place → key (slice_index_or xs k d) < n
    pub above : (k : ℕ) (d : X) → place ≤ k → k < length xs → n < key (slice_index_or xs k d)
