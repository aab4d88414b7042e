-- Fronts of lists.
use Rattle.std.specs.Prelude.{◌≡◌, ℕ, List, ◌++◌, take}

-- the first q elements, or all where there are fewer
abbrev pub cut : {A : Type 0} → List A → ℕ → List A
cut xs q = take q xs

-- xs, and then something or nothing, is ys
abbrev pub IsPrefixOf : {A : Type 0} → List A → List A → Type 0
IsPrefixOf {A} xs ys = (rest : List A) × (xs ++ rest ≡ ys)
