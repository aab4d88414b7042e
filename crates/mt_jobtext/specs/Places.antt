-- Places of a text that is cut in pieces, and what a window shows from one on.
use Rattle.std.specs.Prelude.{◌≡◌, ◌⊎◌, ℕ, ◌<◌, ◌≤◌, ◌^◌, List, [], ◌++◌, drop, length, slice_index_or}
use Rattle.std.specs.List.{flat_map}
use Rattle.mt_jobtext.specs.declared.fill.Place.{Place}

-- the pieces from one of them on, joined
abbrev pub rest_of : List (List ℕ) → ℕ → List ℕ
rest_of pieces next = flat_map (λ piece. piece) (drop next pieces)

-- what is left of a text behind so many pieces, and so many bytes of the next one
abbrev pub left_of : List (List ℕ) → Place → List ℕ
left_of pieces place = drop place.at (rest_of pieces place.next)

-- a place of a text, from whose piece on it has fewer than 2 ^ 64 bytes
pub record IsPlace (pieces : List (List ℕ)) (place : Place) : Type 0 where
  pub next_in : place.next ≤ length pieces
  pub at_in : place.at ≤ length (slice_index_or pieces place.next [])
  pub short : length (rest_of pieces place.next) < 2 ^ 64

-- what a window of this room shows from a place on: the bytes of the text up to the new place, as many as it has room for or are left
pub record FillsFrom (pieces : List (List ℕ)) (old : Place) (room : ℕ) (got : List ℕ) (new : Place) : Type 0 where
  pub place : IsPlace pieces new
  pub goes : left_of pieces old ≡ got ++ left_of pieces new
  pub within : length got ≤ room
  pub full : (length got ≡ room) ⊎ (left_of pieces new ≡ [])
