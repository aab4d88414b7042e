-- Lines that are each ended by a line feed, and lines that are each a JSON value.
use Rattle.std.specs.Prelude.{ℕ, ◌==◌, Bool, List, [], ◌∷◌, ◌++◌, Option, Some, None, option_map, option_and_then, if◌then◌else◌}
use Rattle.std.specs.List.{flat_map, slice_split}
use Rattle.serde_json.specs.Data.{Data}
use Rattle.serde_json.specs.Written.{compact_text}
use Rattle.mt_json.specs.Plain.{value_of}

abbrev pub is_feed : ℕ → Bool
is_feed b = b == 10

-- what stands before the first line feed, and behind it
abbrev pub first_line : List ℕ → Option (List ℕ × List ℕ)
first_line [] = None
first_line (b ∷ bytes) = if is_feed b then Some ([], bytes) else option_map (λ p. (b ∷ p.0, p.1)) (first_line bytes)

-- the parts before the last one, which is to be empty
abbrev pub before_empty : List (List ℕ) → Option (List (List ℕ))
before_empty [] = None
before_empty ([] ∷ []) = Some []
before_empty ((b ∷ last) ∷ []) = None
before_empty (part ∷ next ∷ parts) = option_map (λ lines. part ∷ lines) (before_empty (next ∷ parts))

-- the lines of bytes, without their line feeds; none where something stands behind the last line feed
abbrev pub lines_of : List ℕ → Option (List (List ℕ))
lines_of bytes = before_empty (slice_split is_feed bytes)

-- what each of a list is, if each is one
abbrev pub each : {A B : Type 0} → (A → Option B) → List A → Option (List B)
each f [] = Some []
each f (x ∷ xs) = option_and_then (λ y. option_map (λ ys. y ∷ ys) (each f xs)) (f x)

-- the values of which each line is one
abbrev pub values_of : List ℕ → Option (List Data)
values_of bytes = option_and_then (each value_of) (lines_of bytes)

-- the lines of values
abbrev pub lines_text : List Data → List ℕ
lines_text ds = flat_map (λ d. compact_text d ++ 10 ∷ []) ds
