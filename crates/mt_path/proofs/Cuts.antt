-- What stands before the first element that passes a test, by its place.
use Rattle.std.proofs.Common.{◌≡◌, ℕ, List, Bool, Some, None, nat_lt, length, take, inl, inr, not, sym, ap, ◌∙◌, arith}
use Rattle.std.proofs.lemmas.Bool.{cases_Bool, cond-true, cond-false, ltb-false}
use Rattle.std.proofs.lemmas.List.{take_all}
use Rattle.std.proofs.lemmas.List.Sums.{prefix_len-le-length}
use Rattle.std.specs.List.{before_first, position, position_or_len}

pub before_first-at : (p : ℕ → Bool) (xs : List ℕ) (i : ℕ) → Some i ≡ position p xs → take i xs ≡ before_first p xs
before_first-at p xs i at =
    let n : ℕ = position_or_len p xs in
    elim (cases_Bool (nat_lt n (length xs))) [
      | inl within ↦
          let same : Some i ≡ Some n = at ∙ cond-true (nat_lt n (length xs)) (Some n) None within in
          let is : i ≡ n = cc in
          ap (λ k. take k xs) is
      | inr past ↦
          let never : Some i ≡ None = at ∙ cond-false (nat_lt n (length xs)) (Some n) None past in
          cc
    ]

pub before_first-none : (p : ℕ → Bool) (xs : List ℕ) → None ≡ position p xs → xs ≡ before_first p xs
before_first-none p xs none =
    let n : ℕ = position_or_len p xs in
    elim (cases_Bool (nat_lt n (length xs))) [
      | inl within ↦
          let never : None ≡ Some n = none ∙ cond-true (nat_lt n (length xs)) (Some n) None within in
          cc
      | inr past ↦ sym (take_all n xs (ltb-false n (length xs) past))
    ]

pub position_or_len-at : (p : ℕ → Bool) (xs : List ℕ) (i : ℕ) → Some i ≡ position p xs → i ≡ position_or_len p xs
position_or_len-at p xs i at =
    let n : ℕ = position_or_len p xs in
    elim (cases_Bool (nat_lt n (length xs))) [
      | inl within ↦
          let same : Some i ≡ Some n = at ∙ cond-true (nat_lt n (length xs)) (Some n) None within in
          cc
      | inr past ↦
          let never : Some i ≡ None = at ∙ cond-false (nat_lt n (length xs)) (Some n) None past in
          cc
    ]

pub position_or_len-none : (p : ℕ → Bool) (xs : List ℕ) → None ≡ position p xs → length xs ≡ position_or_len p xs
position_or_len-none p xs none =
    let n : ℕ = position_or_len p xs in
    elim (cases_Bool (nat_lt n (length xs))) [
      | inl within ↦
          let never : None ≡ Some n = none ∙ cond-true (nat_lt n (length xs)) (Some n) None within in
          cc
      | inr past ↦ omega (arith, ltb-false n (length xs) past, prefix_len-le-length (λ x. not (p x)) xs)
    ]
