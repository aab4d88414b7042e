-- Each place of a feed is read by one task of its phase.
use Rattle.std.proofs.Common.{◌≡◌, ℕ, ◌+◌, ◌%◌, ◌==◌, ◌<◌, ◌≤◌, nat_lt, Bool, true, false, cond, ◌||◌, List, [], ◌∷◌, length, map, Option, Some, None, refl, sym, ap, ◌∙◌, arith, zero, suc, eq-eqb, true≢false, ◌⊎◌, inl, inr}
use Rattle.std.specs.Prelude.{filter, take, drop}
use Rattle.std.specs.List.{count_by, enumerate_from, list_any, range_with_len, slice_get}
use Rattle.std.specs.Option.{option_map_or}
use Rattle.std.proofs.lemmas.Bool.{cases_lt, eqb-true, le-ltb, lt-ltb, ne_eqb}
use Rattle.std.proofs.lemmas.List.Sums.{sum_by-cons}
use Rattle.std.proofs.lemmas.Nat.{mod_below}
use Rattle.std.proofs.lemmas.Cmp.{nat_eq_equiv}
use Rattle.mt_types.specs.declared.document.PhaseKind.TheVariants.{Map, Reduce}
use Rattle.mt_types.specs.declared.job.Item.{Item}
use Rattle.std.proofs.lemmas.Option.{slice_get_within}
use Rattle.mt_model.specs.Tasks.{items_read, reads_place, reducer_of, share_places}
use Rattle.mt_model.proofs.Maps.{list_any-map, map-map, same_function}

-- ---- one number of a range

none_in : (m a n : ℕ) → m < a → count_by (λ r. m == r) (range_with_len a n) ≡ 0
none_in m a zero less = refl
none_in m a (suc n) less =
    let first : count_by (λ r. m == r) (range_with_len a (suc n)) ≡ cond (m == a) 1 0 + count_by (λ r. m == r) (range_with_len (a + 1) n) = sum_by-cons (λ r. cond (m == r) 1 0) a (range_with_len (a + 1) n) in
    let no : ◌≡◌ {A = ℕ} (cond (m == a) 1 0) 0 = ap (λ b. cond b 1 0) (ne_eqb m a (λ e. omega (arith, e, less))) in
    let more = none_in m (a + 1) n (omega arith) in
    omega (arith, first, no, more)

first_only : (m a n : ℕ) (b : Bool) → m == a ≡ b → m < a + suc n → a ≤ m → (a + 1 ≤ m → count_by (λ r. m == r) (range_with_len (a + 1) n) ≡ 1) → cond b 1 0 + count_by (λ r. m == r) (range_with_len (a + 1) n) ≡ 1
first_only m a n true is less least more =
    let same : m ≡ a = eqb-true m a is in
    let rest = none_in m (a + 1) n (omega (arith, same)) in
    omega (arith, rest)
first_only m a n false is less least more = by (cases_lt a m)
  where
    by : (a < m) ⊎ (m ≤ a) → 0 + count_by (λ r. m == r) (range_with_len (a + 1) n) ≡ 1
    by (inl above) = let rest = more (omega arith) in omega (arith, rest)
    by (inr le) = let same : m ≡ a = omega (arith, least, le) in absurd (true≢false (sym (eq-eqb m a same) ∙ is))

one_in : (m a n : ℕ) → a ≤ m → m < a + n → count_by (λ r. m == r) (range_with_len a n) ≡ 1
one_in m a zero least less = absurd (omega arith)
one_in m a (suc n) least less =
    sum_by-cons (λ r. cond (m == r) 1 0) a (range_with_len (a + 1) n)
    ∙ first_only m a n (m == a) refl less least (λ le. one_in m (a + 1) n le (omega arith))

-- ---- the places of a share

module _ {B : Type 0} (t : ℕ × Item B → Bool) where
  none_before : (k a : ℕ) (items : List (Item B)) → k < a → list_any (λ p. p.0 == k) (filter t (enumerate_from a items)) ≡ false
  none_before k a [] less = refl
  none_before k a (x ∷ xs) less = by (t (a, x)) (none_before k (a + 1) xs (omega arith))
    where
      by : (b : Bool) → list_any (λ p. p.0 == k) (filter t (enumerate_from (a + 1) xs)) ≡ false → list_any (λ p. p.0 == k) (cond b ((a, x) ∷ filter t (enumerate_from (a + 1) xs)) (filter t (enumerate_from (a + 1) xs))) ≡ false
      by true none = ap (λ b. b || list_any (λ p. p.0 == k) (filter t (enumerate_from (a + 1) xs))) (ne_eqb a k (λ e. omega (arith, e, less))) ∙ none
      by false none = none

  first_case : (a : ℕ) (b : Bool) (x : Item B) (rest : List (ℕ × Item B)) → list_any (λ p. p.0 == a) rest ≡ false → list_any (λ p. p.0 == a) (cond b ((a, x) ∷ rest) rest) ≡ b
  first_case a true x rest none = ap (λ b. b || list_any (λ p. p.0 == a) rest) (eq-eqb a a refl)
  first_case a false x rest none = none

  later_case : (a k : ℕ) (b r : Bool) (x : Item B) (rest : List (ℕ × Item B)) → a < k → list_any (λ p. p.0 == k) rest ≡ r → list_any (λ p. p.0 == k) (cond b ((a, x) ∷ rest) rest) ≡ r
  later_case a k true r x rest less more = ap (λ b. b || list_any (λ p. p.0 == k) rest) (ne_eqb a k (λ e. omega (arith, e, less))) ∙ more
  later_case a k false r x rest less more = more

  place_at : (a j : ℕ) (items : List (Item B)) → list_any (λ p. p.0 == a + j) (filter t (enumerate_from a items)) ≡ option_map_or (λ i. t (a + j, i)) (slice_get items j) false
  place_at a j [] = refl
  place_at a zero (x ∷ xs) =
      let same : a + 0 ≡ a = omega arith in
      ap (λ m. list_any (λ p. p.0 == m) (filter t (enumerate_from a (x ∷ xs)))) same
      ∙ first_case a (t (a, x)) x (filter t (enumerate_from (a + 1) xs)) (none_before a (a + 1) xs (omega arith))
      ∙ ap (λ m. t (m, x)) (sym same)
  place_at a (suc j) (x ∷ xs) =
      let same : a + 1 + j ≡ a + suc j = omega arith in
      later_case a (a + suc j) (t (a, x)) (option_map_or (λ i. t (a + suc j, i)) (slice_get xs j) false) x (filter t (enumerate_from (a + 1) xs)) (omega arith)
      (ap (λ m. list_any (λ p. p.0 == m) (filter t (enumerate_from (a + 1) xs))) (sym same) ∙ place_at (a + 1) j xs ∙ ap (λ m. option_map_or (λ i. t (m, i)) (slice_get xs j) false) same)

none_hold : (count a : ℕ) → count_by (λ r. false) (range_with_len a count) ≡ 0
none_hold zero a = refl
none_hold (suc count) a =
    let first : count_by (λ r. false) (range_with_len a (suc count)) ≡ 0 + count_by (λ r. false) (range_with_len (a + 1) count) = sum_by-cons (λ r. cond false 1 0) a (range_with_len (a + 1) count) in
    let more = none_hold count (a + 1) in
    omega (arith, first, more)

pub beyond : {X : Type 0} (xs : List X) (n : ℕ) → slice_get xs n ≡ None → length xs ≤ n
beyond [] n at = omega arith
beyond (x ∷ xs) zero at = cc
beyond (x ∷ xs) (suc n) at = let more = beyond xs n at in omega (arith, more)

module _ {B : Type 0} (items : List (Item B)) (count : ℕ) (some : 0 < count) where
  by_item : (k : ℕ) (o : Option (Item B)) → slice_get items k ≡ o → count_by (λ r. option_map_or (λ i. reducer_of (0 + k, i) % count == r) o false) (range_with_len 0 count) ≡ cond (nat_lt k (length items)) 1 0
  by_item k None is =
      none_hold count 0 ∙ ap (λ b. cond b 1 0) (sym (le-ltb k (length items) (beyond items k is)))
  by_item k (Some i) is =
      one_in (reducer_of (0 + k, i) % count) 0 count (omega arith) (let less = mod_below (reducer_of (0 + k, i)) count some in omega (arith, less))
      ∙ ap (λ b. cond b 1 0) (sym (lt-ltb k (length items) (slice_get_within items k i is)))

  pub shared_once : (k : ℕ) → count_by (reads_place (Reduce count) items k) (range_with_len 0 count) ≡ cond (nat_lt k (length items)) 1 0
  shared_once k =
      ap (λ h. count_by h (range_with_len 0 count)) (same_function (reads_place (Reduce count) items k) (λ r. option_map_or (λ i. reducer_of (0 + k, i) % count == r) (slice_get items k) false)
      (λ r. let same : 0 + k ≡ k = omega arith in ap (λ m. list_any (λ p. p.0 == m) (share_places items count r)) (sym same) ∙ place_at (λ p. reducer_of p % count == r) 0 k items))
      ∙ by_item k (slice_get items k) refl

  -- a reducer reads a place where the item there goes to it
  pub reads_share : (k reducer : ℕ) (i : Item B) → slice_get items k ≡ Some i → reads_place (Reduce count) items k reducer ≡ reducer_of (k, i) % count == reducer
  reads_share k reducer i at =
      let same : 0 + k ≡ k = omega arith in
      ap (λ m. list_any (λ p. p.0 == m) (share_places items count reducer)) (sym same)
      ∙ place_at (λ p. reducer_of p % count == reducer) 0 k items
      ∙ ap (λ o. option_map_or (λ i. reducer_of (0 + k, i) % count == reducer) o false) at
      ∙ ap (λ m. reducer_of (m, i) % count == reducer) same

-- ---- the tasks of a map phase

map_same : {X : Type 0} (xs : List X) → map (λ x. x) xs ≡ xs
map_same [] = refl
map_same (x ∷ xs) = ap (λ l. x ∷ l) (map_same xs)

one_there : {X : Type 0} (n : ℕ) (xs : List X) → n < length xs → (x : X) × (take 1 (drop n xs) ≡ x ∷ [])
one_there n [] less = absurd (omega (arith, less))
one_there zero (x ∷ xs) less = (x, refl)
one_there (suc n) (x ∷ xs) less = one_there n xs (omega (arith, less))

none_there : {X : Type 0} (n : ℕ) (xs : List X) → length xs ≤ n → take 1 (drop n xs) ≡ []
none_there zero [] le = refl
none_there (suc n) [] le = refl
none_there zero (x ∷ xs) le = absurd (omega (arith, le))
none_there (suc n) (x ∷ xs) le = none_there n xs (omega (arith, le))

alone : (b : Bool) → (b || false) ≡ b
alone true = refl
alone false = refl

module _ {B : Type 0} where
  -- it reads the item at its place
  pub map_reads : (items : List (Item B)) (place : ℕ) → items_read Map items place ≡ take 1 (drop place items)
  map_reads items place = map-map (λ (p : ℕ × Item B). p.1) (λ i. (place, i)) (take 1 (drop place items)) ∙ map_same (take 1 (drop place items))

  pub reads_map : (items : List (Item B)) (k place : ℕ) → k < length items → reads_place Map items k place ≡ place == k
  reads_map items k place under = list_any-map (λ i. (place, i)) (λ p. p.0 == k) (take 1 (drop place items)) ∙ by (cases_lt place (length items))
    where
      by : (place < length items) ⊎ (length items ≤ place) → list_any (λ i. place == k) (take 1 (drop place items)) ≡ place == k
      by (inl less) = ap (list_any (λ i. place == k)) (one_there place items less).1 ∙ alone (place == k)
      by (inr le) = ap (list_any (λ i. place == k)) (none_there place items le) ∙ sym (ne_eqb place k (λ e. omega (arith, e, le, under)))

  reads_past : (items : List (Item B)) (k place : ℕ) → length items ≤ k → reads_place Map items k place ≡ false
  reads_past items k place past = list_any-map (λ i. (place, i)) (λ p. p.0 == k) (take 1 (drop place items)) ∙ by (cases_lt place (length items))
    where
      by : (place < length items) ⊎ (length items ≤ place) → list_any (λ i. place == k) (take 1 (drop place items)) ≡ false
      by (inl less) = ap (list_any (λ i. place == k)) (one_there place items less).1 ∙ alone (place == k) ∙ ne_eqb place k (λ e. omega (arith, e, less, past))
      by (inr le) = ap (list_any (λ i. place == k)) (none_there place items le)

  pub read_by_one : (items : List (Item B)) (k : ℕ) → count_by (reads_place Map items k) (range_with_len 0 (length items)) ≡ cond (nat_lt k (length items)) 1 0
  read_by_one items k = by (cases_lt k (length items))
    where
      by : (k < length items) ⊎ (length items ≤ k) → count_by (reads_place Map items k) (range_with_len 0 (length items)) ≡ cond (nat_lt k (length items)) 1 0
      by (inl less) =
          ap (λ t. count_by t (range_with_len 0 (length items))) (same_function (reads_place Map items k) (λ r. k == r) (λ r. reads_map items k r less ∙ nat_eq_equiv.symm r k))
          ∙ one_in k 0 (length items) (omega arith) (omega (arith, less))
          ∙ ap (λ b. cond b 1 0) (sym (lt-ltb k (length items) less))
      by (inr le) =
          ap (λ t. count_by t (range_with_len 0 (length items))) (same_function (reads_place Map items k) (λ r. false) (λ r. reads_past items k r le))
          ∙ none_hold (length items) 0
          ∙ ap (λ b. cond b 1 0) (sym (le-ltb k (length items) le))
