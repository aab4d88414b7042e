-- Metadata: fewer than two fields stand by name, and no field is longer than all of them.
use Rattle.std.proofs.Common.{◌≡◌, ℕ, ◌<◌, ◌≤◌, List, [], ◌∷◌, length, true, refl, arith}
use Rattle.std.specs.List.{AllByRecursion}
use Rattle.mt_types.specs.declared.object.Field.{Field}
use Rattle.mt_types.specs.Limits.{is_by_name, metadata_size}

pub by_name-one : (fields : List Field) → length fields < 2 → true ≡ is_by_name fields
by_name-one [] few = refl
by_name-one (f ∷ []) few = refl
by_name-one (f ∷ g ∷ fields) few = absurd (omega arith)

-- no name and no value is longer than all of them
pub each_small : (fields : List Field) (n : ℕ) → metadata_size fields ≤ n → AllByRecursion (λ f. (length f.name ≤ n) × (length f.value ≤ n)) fields
each_small [] n le = tt
each_small (f ∷ fields) n le = ((omega arith, omega arith), each_small fields n (omega arith))
