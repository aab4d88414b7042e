-- The text of a path below a directory.
use Rattle.std.proofs.Common.{◌≡◌, ℕ, List, [], ◌∷◌, ◌++◌, sym, ap, ◌∙◌, append_assoc, append-nil}
use Rattle.mt_path.specs.AccountPath.{area_name, path_text, slash, slashed}
use Rattle.mt_script.specs.Laws.{NamesAreWhole}

slashed_below : (names : List (List ℕ)) (name : List ℕ) → slashed (names ++ name ∷ []) ≡ slashed names ++ slash ∷ name
slashed_below [] name = append-nil (slash ∷ name)
slashed_below (n ∷ names) name = ap (λ l. (slash ∷ n) ++ l) (slashed_below names name) ∙ sym (append_assoc (slash ∷ n) (slashed names) (slash ∷ name))

pub whole_names : NamesAreWhole
unfolding path_text
whole_names login dir r = sym (slashed_below (login ∷ area_name dir.area ∷ dir.parts) r.name)
