-- Reads of lists at an index.
use Rattle.std.proofs.Common.{Bool, List, None, Option, Some, [], ap, append_assoc, arith, eq-eqb, false, length, map, refl, set, suc, sym, true, true≢false, zero, ℕ, ◌++◌, ◌+◌, ◌<◌, ◌==◌, ◌∙◌, ◌∷◌, ◌≡◌}
use Rattle.std.specs.List.{range_with_len, slice_get}
use Rattle.std.specs.Option.{option_and_then, option_map, unwrap_or}
use Rattle.std.proofs.lemmas.Bool.{eqb-true}
use Rattle.mt_model.proofs.Maps.{slice_get-map}

module _ {X : Type 0} where
  -- what was written at an index is read there
  pub slice_set_here : (xs : List X) (k : ℕ) (x : X) → k < length xs → slice_get (set xs k x) k ≡ Some x
  slice_set_here [] k x less = absurd (omega arith)
  slice_set_here (y ∷ ys) zero x less = refl
  slice_set_here (y ∷ ys) (suc k) x less = slice_set_here ys k x (omega (arith, less))

  -- and elsewhere what was there
  pub slice_set_else : (xs : List X) (k n : ℕ) (x : X) → (k ≡ n → ⊥) → slice_get (set xs k x) n ≡ slice_get xs n
  slice_set_else [] k n x off = refl
  slice_set_else (y ∷ ys) zero zero x off = absurd (off refl)
  slice_set_else (y ∷ ys) zero (suc n) x off = refl
  slice_set_else (y ∷ ys) (suc k) zero x off = refl
  slice_set_else (y ∷ ys) (suc k) (suc n) x off = slice_set_else ys k n x (λ same. off (ap suc same))

  -- behind a front
  pub slice_get_behind : (front : List X) (x : X) (rest : List X) → slice_get (front ++ x ∷ rest) (length front) ≡ Some x
  slice_get_behind [] x rest = refl
  slice_get_behind (y ∷ ys) x rest = slice_get_behind ys x rest

  -- the reads at all indexes are the list
  reads_behind : (front xs : List X) (n : ℕ) → n ≡ length front → map (λ i. slice_get (front ++ xs) i) (range_with_len n (length xs)) ≡ map (λ x. Some x) xs
  reads_behind front [] n same = refl
  reads_behind front (x ∷ xs) n same =
      let on : n + 1 ≡ length front + 1 = omega (arith, same) in
      let long : length front + 1 ≡ length (front ++ x ∷ []) = sym (by front) in
      ap (λ o. o ∷ map (λ i. slice_get (front ++ x ∷ xs) i) (range_with_len (n + 1) (length xs))) (ap (slice_get (front ++ x ∷ xs)) same ∙ slice_get_behind front x xs)
      ∙ ap (λ l. Some x ∷ l)
      (ap (λ all. map (λ i. slice_get all i) (range_with_len (n + 1) (length xs))) (sym (append_assoc front (x ∷ []) xs))
      ∙ reads_behind (front ++ x ∷ []) xs (n + 1) (on ∙ long))
    where
      by : (ys : List X) → length (ys ++ x ∷ []) ≡ length ys + 1
      by [] = omega arith
      by (y ∷ ys) = let more = by ys in omega (arith, more)

  pub reads_all : (xs : List X) → map (λ i. slice_get xs i) (range_with_len 0 (length xs)) ≡ map (λ x. Some x) xs
  reads_all xs = reads_behind [] xs 0 refl

  -- an option in an option
  abbrev pub flat : Option (Option X) → Option X
  flat None = None
  flat (Some o) = o

  pub flat_some : (o : Option X) → flat (option_map (λ x. Some x) o) ≡ o
  flat_some None = refl
  flat_some (Some x) = refl

  pub and_then_flat : {Y : Type 0} (f : Y → Option X) (o : Option Y) → option_and_then f o ≡ flat (option_map f o)
  and_then_flat f None = refl
  and_then_flat f (Some y) = refl

  -- where reads through a list of places give the elements of another list, they give its reads
  pub reads_through : {Y : Type 0} (f : Y → Option X) (ys : List Y) (xs : List X) (k : ℕ) → map f ys ≡ map (λ x. Some x) xs → option_and_then f (slice_get ys k) ≡ slice_get xs k
  reads_through f ys xs k same =
      and_then_flat f (slice_get ys k)
      ∙ ap flat (sym (slice_get-map f ys k) ∙ ap (λ l. slice_get l k) same ∙ slice_get-map (λ x. Some x) xs k)
      ∙ flat_some (slice_get xs k)

-- ---- elements that are cleared one by one

module _ {X Y : Type 0} (f : X → List Y) where
  next_case : (xs : List X) (i : ℕ) (new : X) → f new ≡ [] → i < length xs → ((k : ℕ) (w : X) → k < i → slice_get xs k ≡ Some w → f w ≡ []) → (k : ℕ) (w : X) (b : Bool) → i == k ≡ b → k < i + 1 → slice_get (set xs i new) k ≡ Some w → f w ≡ []
  next_case xs i new none within so_far k w true same less at =
      let here : i ≡ k = eqb-true i k same in
      let is : new ≡ w = ap (λ o. unwrap_or o new) (sym (slice_set_here xs i new within) ∙ ap (slice_get (set xs i new)) here ∙ at) in
      ap f (sym is) ∙ none
  next_case xs i new none within so_far k w false other less at =
      let off : i ≡ k → ⊥ = λ e. true≢false (sym (eq-eqb i k e) ∙ other) in
      so_far k w (omega (arith, less, off)) (sym (slice_set_else xs i k new off) ∙ at)

  pub cleared_next : (xs : List X) (i : ℕ) (new : X) → f new ≡ [] → i < length xs → ((k : ℕ) (w : X) → k < i → slice_get xs k ≡ Some w → f w ≡ []) → (k : ℕ) (w : X) → k < i + 1 → slice_get (set xs i new) k ≡ Some w → f w ≡ []
  cleared_next xs i new none within so_far k w less at = next_case xs i new none within so_far k w (i == k) refl less at

  pub cleared_all : (xs olds : List X) → length xs ≡ length olds → ((k : ℕ) (w : X) → k < length xs → slice_get xs k ≡ Some w → f w ≡ []) → map f xs ≡ map (λ s. []) olds
  cleared_all [] [] long all = refl
  cleared_all [] (o ∷ os) long all = cc
  cleared_all (x ∷ xs) [] long all = cc
  cleared_all (x ∷ xs) (o ∷ os) long all =
      ap (λ l. l ∷ map f xs) (all 0 x (omega arith) refl)
      ∙ ap (λ l. [] ∷ l) (cleared_all xs os (omega (arith, long)) (λ k w less at. all (suc k) w (omega (arith, less)) at))
