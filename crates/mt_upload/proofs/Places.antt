-- Values whose keys rise: what a binary search finds among them, and what a write or an insert there makes of them.
use Rattle.std.proofs.Common.{◌≡◌, ℕ, ◌<◌, ◌≤◌, ◌==◌, false, cond, List, [], ◌∷◌, length, map, set, get_or, insert, Some, None, Result, Ok, Err, refl, sym, ap, subst, ◌∙◌, arith, zero, suc, eq-eqb, ne_eqb}
use Rattle.std.specs.Prelude.{if◌then◌else◌, IfOk, IfErr}
use Rattle.std.specs.List.{AllByRecursion, find}
use Rattle.std.specs.List.Sorted.{IsBinarySearchResult, IsNonDecreasingBy, IsSearchInRange, IsStrictlySortedBy}
use Rattle.std.specs.Cmp.{nat_cmp_is}
use Rattle.std.specs.Ordering.{nat_cmp, ordering_index}
use Rattle.std.specs.declared.cmp.Ordering.TheVariants.{Less}
use Rattle.std.proofs.lemmas.Bool.Decides.{nat_tests}
use Rattle.std.proofs.lemmas.Cmp.{ranked}
use Rattle.std.proofs.lemmas.List.{length-map}
use Rattle.std.proofs.Math.ListN.{get_or-map}
use Rattle.std.proofs.lemmas.Map.Keys.{below_from_sorted}
use Rattle.mt_upload.specs.UploadList.{IsGapFor, IsPlaceOf}

module _ {X : Type 0} (key : X → ℕ) where
  -- ---- a binary search

  module _ (xs : List X) (rising : IsStrictlySortedBy nat_cmp (map key xs)) where
    keys_rise : (i j : ℕ) (d : X) → i < j → j < length xs → key (get_or xs i d) < key (get_or xs j d)
    keys_rise i j d less within =
        let short : j < length (map key xs) = subst (λ m. j < m) (sym (length-map xs key)) within in
        let below : get_or (map key xs) i (key d) < get_or (map key xs) j (key d) = below_from_sorted (map key xs) i j (key d) rising less short in
        subst (λ m. m < key (get_or xs j d)) (get_or-map key xs i d) (subst (λ m. get_or (map key xs) i (key d) < m) (get_or-map key xs j d) below)

    answers_rise : (n : ℕ) → IsNonDecreasingBy (λ x. ordering_index (nat_cmp (key x) n)) xs
    answers_rise n i j d le within = by (key (get_or xs i d)) (key (get_or xs j d)) (grind (arith, keys_rise i j d, λ (same : i ≡ j). ap (λ k. key (get_or xs k d)) same))
      where
        by : (a b : ℕ) → a ≤ b → ordering_index (nat_cmp a n) ≤ ordering_index (nat_cmp b n)
        by a b le = grind (arith, nat_tests)

    -- a binary search ends at the value of a key, or at the gap for it
    pub searched : (n : ℕ) (r : Result ℕ ℕ) → IsSearchInRange r (length xs) → IsBinarySearchResult (λ x. nat_cmp (key x) n) xs r → record { found : IfOk r (IsPlaceOf key xs n); absent : IfErr r (IsGapFor key xs n) }
    searched n (Ok i) within equal =
        let here : (d : X) → key (get_or xs i d) ≡ n = λ d. ranked (key (get_or xs i d)) n _ (sym (equal d)) in
        record {
          found = record {
            within = within;
            here = here;
            below = λ k d less. subst (λ m. key (get_or xs k d) < m) (here d) (keys_rise k i d less within);
            above = λ k d more short. subst (λ m. m < key (get_or xs k d)) (here d) (keys_rise i k d more short);
          };
          absent = tt;
        }
    searched n (Err i) within parted =
        let parts = parted (answers_rise n) in
        record {
          found = tt;
          absent = record {
            within = within;
            below = λ k d less. ranked (key (get_or xs k d)) n _ (sym (parts.0 k d (omega arith) less));
            above = λ k d le short. ranked (key (get_or xs k d)) n _ (sym (parts.1 k d le short));
          };
        }

  -- ---- places in the rest of a list

  pub place_in_rest : (x : X) (xs : List X) (n i : ℕ) → IsPlaceOf key (x ∷ xs) n (suc i) → IsPlaceOf key xs n i
  place_in_rest x xs n i p = record {
    within = omega (arith, p.within);
    here = p.here;
    below = λ k d less. p.below (suc k) d (omega arith);
    above = λ k d more short. p.above (suc k) d (omega arith) (omega arith);
  }

  pub gap_in_rest : (x : X) (xs : List X) (n i : ℕ) → IsGapFor key (x ∷ xs) n (suc i) → IsGapFor key xs n i
  gap_in_rest x xs n i g = record {
    within = omega (arith, g.within);
    below = λ k d less. g.below (suc k) d (omega arith);
    above = λ k d le short. g.above (suc k) d (omega arith) (omega arith);
  }

  gap_behind : (x : X) (xs : List X) (n : ℕ) → IsGapFor key (x ∷ xs) n zero → IsGapFor key xs n zero
  gap_behind x xs n g = record {
    within = omega arith;
    below = λ k d less. absurd (omega arith);
    above = λ k d le short. g.above (suc k) d (omega arith) (omega arith);
  }

  -- behind the value of a key there is none of this key
  gap_behind_place : (x : X) (xs : List X) (n : ℕ) → IsPlaceOf key (x ∷ xs) n zero → IsGapFor key xs n zero
  gap_behind_place x xs n p = record {
    within = omega arith;
    below = λ k d less. absurd (omega arith);
    above = λ k d le short. p.above (suc k) d (omega arith) (omega arith);
  }

  -- ---- the first value of a key

  off_below : (x n : ℕ) → x < n → (x == n) ≡ false
  off_below x n less = ne_eqb x n (λ same. omega arith)

  off_above : (x n : ℕ) → n < x → (x == n) ≡ false
  off_above x n more = ne_eqb x n (λ same. omega arith)

  pub find_at : (xs : List X) (n i : ℕ) (d : X) → IsPlaceOf key xs n i → find (λ x. key x == n) xs ≡ Some (get_or xs i d)
  find_at [] n i d p = absurd (omega (arith, p.within))
  find_at (x ∷ xs) n zero d p = ap (λ b. cond b (Some x) (find (λ x. key x == n) xs)) (eq-eqb (key x) n (p.here d))
  find_at (x ∷ xs) n (suc i) d p =
      ap (λ b. cond b (Some x) (find (λ x. key x == n) xs)) (off_below (key x) n (p.below 0 d (omega arith)))
      ∙ find_at xs n i d (place_in_rest x xs n i p)

  pub find_none : (xs : List X) (n i : ℕ) → IsGapFor key xs n i → find (λ x. key x == n) xs ≡ None
  find_none [] n i g = refl
  find_none (x ∷ xs) n zero g =
      ap (λ b. cond b (Some x) (find (λ x. key x == n) xs)) (off_above (key x) n (g.above 0 x (omega arith) (omega arith)))
      ∙ find_none xs n zero (gap_behind x xs n g)
  find_none (x ∷ xs) n (suc i) g =
      ap (λ b. cond b (Some x) (find (λ x. key x == n) xs)) (off_below (key x) n (g.below 0 x (omega arith)))
      ∙ find_none xs n i (gap_in_rest x xs n i g)

  -- ---- the value of a key changes

  pub map_none : (change : X → X) (xs : List X) (n i : ℕ) → IsGapFor key xs n i → map (λ x. if key x == n then change x else x) xs ≡ xs
  map_none change [] n i g = refl
  map_none change (x ∷ xs) n zero g =
      ap (λ b. cond b (change x) x ∷ map (λ x. if key x == n then change x else x) xs) (off_above (key x) n (g.above 0 x (omega arith) (omega arith)))
      ∙ ap (λ l. x ∷ l) (map_none change xs n zero (gap_behind x xs n g))
  map_none change (x ∷ xs) n (suc i) g =
      ap (λ b. cond b (change x) x ∷ map (λ x. if key x == n then change x else x) xs) (off_below (key x) n (g.below 0 x (omega arith)))
      ∙ ap (λ l. x ∷ l) (map_none change xs n i (gap_in_rest x xs n i g))

  -- to write the changed value at its place is to change the value of its key
  pub set_is : (change : X → X) (xs : List X) (n i : ℕ) (d : X) → IsPlaceOf key xs n i → set xs i (change (get_or xs i d)) ≡ map (λ x. if key x == n then change x else x) xs
  set_is change [] n i d p = absurd (omega (arith, p.within))
  set_is change (x ∷ xs) n zero d p =
      ap (λ l. change x ∷ l) (sym (map_none change xs n zero (gap_behind_place x xs n p)))
      ∙ ap (λ b. cond b (change x) x ∷ map (λ x. if key x == n then change x else x) xs) (sym (eq-eqb (key x) n (p.here d)))
  set_is change (x ∷ xs) n (suc i) d p =
      ap (λ l. x ∷ l) (set_is change xs n i d (place_in_rest x xs n i p))
      ∙ ap (λ b. cond b (change x) x ∷ map (λ x. if key x == n then change x else x) xs) (sym (off_below (key x) n (p.below 0 d (omega arith))))

  -- ---- one more value

  all_beyond : (a : ℕ) (xs : List X) → ((k : ℕ) (d : X) → k < length xs → a < key (get_or xs k d)) → AllByRecursion (λ m. nat_cmp a m ≡ Less) (map key xs)
  all_beyond a [] more = tt
  all_beyond a (x ∷ xs) more = (sym (nat_cmp_is a (key x) Less (more 0 x (omega arith))), all_beyond a xs (λ k d short. more (suc k) d (omega arith)))

  insert_beyond : (a : ℕ) (xs : List X) (i : ℕ) (y : X) → AllByRecursion (λ m. nat_cmp a m ≡ Less) (map key xs) → a < key y → AllByRecursion (λ m. nat_cmp a m ≡ Less) (map key (insert xs i y))
  insert_beyond a xs zero y all less = (sym (nat_cmp_is a (key y) Less less), all)
  insert_beyond a [] (suc i) y all less = (sym (nat_cmp_is a (key y) Less less), tt)
  insert_beyond a (x ∷ xs) (suc i) y all less = (all.0, insert_beyond a xs i y all.1 less)

  -- in the gap for its key it keeps the order
  pub rising_insert : (xs : List X) (i : ℕ) (y : X) → IsGapFor key xs (key y) i → IsStrictlySortedBy nat_cmp (map key xs) → IsStrictlySortedBy nat_cmp (map key (insert xs i y))
  unfolding IsStrictlySortedBy
  rising_insert xs zero y g rising = (all_beyond (key y) xs (λ k d short. g.above k d (omega arith) short), rising)
  rising_insert [] (suc i) y g rising = (tt, tt)
  rising_insert (x ∷ xs) (suc i) y g rising =
      (insert_beyond (key x) xs i y rising.0 (g.below 0 x (omega arith)), rising_insert xs i y (gap_in_rest x xs (key y) i g) rising.1)
