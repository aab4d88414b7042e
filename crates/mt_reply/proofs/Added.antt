-- Fields behind fields.
use Rattle.std.proofs.Common.{◌≡◌, List, [], ◌∷◌, ◌++◌, refl, ap}
use Rattle.mt_types.specs.declared.object.Field.{Field}

pub two_added : (a : List Field) (x y : Field) → (a ++ x ∷ []) ++ y ∷ [] ≡ a ++ x ∷ y ∷ []
two_added [] x y = refl
two_added (b ∷ a) x y = ap (λ (l : List Field). b ∷ l) (two_added a x y)

pub three_and_more : (a : List Field) (x y z : Field) (d m : List Field) → ((((a ++ x ∷ []) ++ y ∷ []) ++ z ∷ []) ++ d) ++ m ≡ a ++ x ∷ y ∷ z ∷ (d ++ m)
three_and_more [] x y z d m = refl
three_and_more (b ∷ a) x y z d m = ap (λ (l : List Field). b ∷ l) (three_and_more a x y z d m)

pub three_are : (a : List Field) {x x' y y' z z' : Field} (rest : List Field) → x ≡ x' → y ≡ y' → z ≡ z' → a ++ x ∷ y ∷ z ∷ rest ≡ a ++ x' ∷ y' ∷ z' ∷ rest
three_are a rest first second third = rw (first, second, third) refl
