-- The value of a field that comes once.
use Rattle.std.proofs.Common.{◌≡◌, ℕ, List, [], ◌∷◌, None, length, refl, arith}
use Rattle.mt_http.proofs.FramingLemmas.{first_of}
use Rattle.mt_response.specs.Replies.{only}

pub only-one : (values : List (List ℕ)) → length values ≡ 1 → first_of values ≡ only values
only-one [] one = absurd (omega (arith, one))
only-one (x ∷ []) one = refl
only-one (x ∷ y ∷ more) one = absurd (omega (arith, one))

pub only-none : (values : List (List ℕ)) → ¬ (length values ≡ 1) → None ≡ only values
only-none [] many = refl
only-none (x ∷ []) many = absurd (many refl)
only-none (x ∷ y ∷ more) many = refl
