-- The first phase that passes a test.
use Rattle.std.proofs.Common.{◌≡◌, ℕ, ◌+◌, ◌<◌, zero, suc, Bool, true, false, cond, List, [], ◌∷◌, Some, None, refl, sym, ap, subst, ◌∙◌, arith}
use Rattle.std.specs.List.{enumerate_from, find, slice_get}
use Rattle.std.proofs.lemmas.Option.{some_pair_parts}
use Rattle.mt_types.specs.declared.document.Phase.{Phase}

-- the phase of this number passes, and none before it
pub record FirstAt (test : ℕ × Phase → Bool) (m : ℕ) (ps : List Phase) (n : ℕ) (p : Phase) : Type 0 where
  pub place : ℕ
  pub is : n ≡ m + place
  pub at : slice_get ps place ≡ Some p
  pub passes : test (n, p) ≡ true
  pub before : (j : ℕ) (q : Phase) → j < place → slice_get ps j ≡ Some q → test (m + j, q) ≡ false

module _ (test : ℕ × Phase → Bool) where
  nothing_before : (m : ℕ) (ps : List Phase) (j : ℕ) (q : Phase) → j < 0 → slice_get ps j ≡ Some q → test (m + j, q) ≡ false
  nothing_before m ps j q lt at = absurd (omega (arith, lt))

  one_more : (m i : ℕ) (p : Phase) (ps : List Phase) → test (m, p) ≡ false → ((j : ℕ) (q : Phase) → j < i → slice_get ps j ≡ Some q → test (m + 1 + j, q) ≡ false)
      → (j : ℕ) (q : Phase) → j < suc i → slice_get (p ∷ ps) j ≡ Some q → test (m + j, q) ≡ false
  one_more m i p ps here later zero q lt at =
      let same : m ≡ m + 0 = omega arith in
      subst (λ x. test (x, q) ≡ false) same (let is : p ≡ q = cc in subst (λ x. test (m, x) ≡ false) is here)
  one_more m i p ps here later (suc j) q lt at =
      let same : m + 1 + j ≡ m + suc j = omega arith in
      subst (λ x. test (x, q) ≡ false) same (later j q (omega (arith, lt)) at)

  pub find_first : (m : ℕ) (ps : List Phase) (n : ℕ) (p : Phase) → find test (enumerate_from m ps) ≡ Some (n, p) → FirstAt test m ps n p
  find_first m [] n p e = cc
  find_first m (q ∷ ps) n p e = by (test (m, q)) refl e (find_first (m + 1) ps n p)
    where
      by : (b : Bool) → test (m, q) ≡ b → cond b (Some (m, q)) (find test (enumerate_from (m + 1) ps)) ≡ Some (n, p)
          → (find test (enumerate_from (m + 1) ps) ≡ Some (n, p) → FirstAt test (m + 1) ps n p) → FirstAt test m (q ∷ ps) n p
      by true t e later =
          let parts = some_pair_parts m n q p e in
          record {
            place = 0;
            is = omega (arith, parts.0);
            at = ap (λ x. Some x) parts.1;
            passes = subst (λ x. test (x, p) ≡ true) parts.0 (subst (λ x. test (m, x) ≡ true) parts.1 t);
            before = nothing_before m (q ∷ ps);
          }
      by false t e later =
          let r = later e in
          record {
            place = suc r.place;
            is = omega (arith, r.is);
            at = r.at;
            passes = r.passes;
            before = one_more m r.place q ps t r.before;
          }

  pub first_found : (m : ℕ) (ps : List Phase) (i : ℕ) (p : Phase) → slice_get ps i ≡ Some p → test (m + i, p) ≡ true
      → ((j : ℕ) (q : Phase) → j < i → slice_get ps j ≡ Some q → test (m + j, q) ≡ false) → find test (enumerate_from m ps) ≡ Some (m + i, p)
  first_found m [] i p at passes before = cc
  first_found m (q ∷ ps) zero p at passes before =
      let same : m + 0 ≡ m = omega arith in
      let is : q ≡ p = cc in
      let here : test (m, q) ≡ true = subst (λ x. test (x, q) ≡ true) same (subst (λ x. test (m + 0, x) ≡ true) (sym is) passes) in
      ap (λ b. cond b (Some (m, q)) (find test (enumerate_from (m + 1) ps))) here ∙ (ap (λ x. Some (x, q)) (sym same) ∙ ap (λ x. Some (m + 0, x)) is)
  first_found m (q ∷ ps) (suc i) p at passes before =
      let same : m + suc i ≡ m + 1 + i = omega arith in
      let none : m + 0 ≡ m = omega arith in
      let here : test (m, q) ≡ false = subst (λ x. test (x, q) ≡ false) none (before 0 q (omega arith) refl) in
      ap (λ b. cond b (Some (m, q)) (find test (enumerate_from (m + 1) ps))) here
      ∙ (first_found (m + 1) ps i p at (subst (λ x. test (x, p) ≡ true) same passes)
      (λ j r lt is. let next : m + suc j ≡ m + 1 + j = omega arith in subst (λ x. test (x, r) ≡ false) next (before (suc j) r (omega (arith, lt)) is))
      ∙ ap (λ x. Some (x, p)) (sym same))

  pub none_passes : (m : ℕ) (ps : List Phase) → find test (enumerate_from m ps) ≡ None → (j : ℕ) (q : Phase) → slice_get ps j ≡ Some q → test (m + j, q) ≡ false
  none_passes m [] e j q at = cc
  none_passes m (p ∷ ps) e j q at = by (test (m, p)) refl e (none_passes (m + 1) ps)
    where
      by : (b : Bool) → test (m, p) ≡ b → cond b (Some (m, p)) (find test (enumerate_from (m + 1) ps)) ≡ None
          → (find test (enumerate_from (m + 1) ps) ≡ None → (i : ℕ) (r : Phase) → slice_get ps i ≡ Some r → test (m + 1 + i, r) ≡ false) → test (m + j, q) ≡ false
      by true t e later = cc
      by false t e later = one_more m (suc j) p ps t (λ i r lt is. later e i r is) j q (omega arith) at

  pub none_found : (m : ℕ) (ps : List Phase) → ((j : ℕ) (q : Phase) → slice_get ps j ≡ Some q → test (m + j, q) ≡ false) → find test (enumerate_from m ps) ≡ None
  none_found m [] none = refl
  none_found m (p ∷ ps) none =
      let same : m + 0 ≡ m = omega arith in
      let here : test (m, p) ≡ false = subst (λ x. test (x, p) ≡ false) same (none 0 p refl) in
      ap (λ b. cond b (Some (m, p)) (find test (enumerate_from (m + 1) ps))) here
      ∙ none_found (m + 1) ps (λ j q at. let next : m + suc j ≡ m + 1 + j = omega arith in subst (λ x. test (x, q) ≡ false) next (none (suc j) q at))
