-- What holds of each value of a list, one after the other.
use Rattle.std.proofs.Common.{◌≡◌, ℕ, ◌+◌, ◌<◌, ◌≤◌, suc, zero, List, [], ◌∷◌, length, take, get_or, add-one, sym, subst, arith}
use Rattle.std.proofs.lemmas.List.{take_all}
use Rattle.std.specs.List.{AllByRecursion}

module _ {X : Type 0} (P : X → Type 0) where
  next : (n : ℕ) (xs : List X) (x : X) → n < length xs → x ≡ get_or xs n x → AllByRecursion P (take n xs) → P x → AllByRecursion P (take (suc n) xs)
  next n [] x within is all holds = tt
  next zero (y ∷ ys) x within is all holds = (subst P is holds, tt)
  next (suc n) (y ∷ ys) x within is all holds = (all.0, next n ys x (omega (arith, within)) is all.1 holds)

  -- it holds of one more
  pub one_more : (n : ℕ) (xs : List X) (x : X) → n < length xs → x ≡ get_or xs n x → AllByRecursion P (take n xs) → P x → AllByRecursion P (take (n + 1) xs)
  one_more n xs x within is all holds = subst (λ m. AllByRecursion P (take m xs)) (sym (add-one n)) (next n xs x within is all holds)

  -- it holds of all
  pub of_all : (n : ℕ) (xs : List X) → length xs ≤ n → AllByRecursion P (take n xs) → AllByRecursion P xs
  of_all n xs past all = subst (AllByRecursion P) (take_all n xs past) all

  -- what holds of all holds of one
  pub of_one : (n : ℕ) (xs : List X) (x : X) → n < length xs → x ≡ get_or xs n x → AllByRecursion P xs → P x
  of_one n [] x within is all = absurd (omega (arith, within))
  of_one zero (y ∷ ys) x within is all = subst P (sym is) all.0
  of_one (suc n) (y ∷ ys) x within is all = of_one n ys x (omega (arith, within)) is all.1
