-- The places of a phase that are not committed: some, and all from one on.
use Rattle.std.proofs.Common.{◌≡◌, ◌≢◌, ℕ, ◌+◌, ◌-◌, ◌<◌, ◌≤◌, ◌==◌, nat_lt, Bool, true, false, not, cond, ◌||◌, List, [], ◌∷◌, ◌++◌, Option, Some, refl, sym, ap, ◌∙◌, arith, suc, zero, ◌⊎◌, inl, inr, eq-eqb}
use Rattle.std.specs.Prelude.{All}
use Rattle.std.specs.List.{filter, find, list_any, range_with_len}
use Rattle.std.specs.Option.{option_or}
use Rattle.std.specs.List.Sorted.{IsStrictlySortedBy}
use Rattle.std.specs.BTreeMap.{is_at}
use Rattle.std.specs.BTreeSet.{insert_key}
use Rattle.std.specs.Set.{remove_key}
use Rattle.std.specs.Ordering.{nat_cmp}
use Rattle.std.proofs.lemmas.List.{append_assoc}
use Rattle.std.proofs.lemmas.Bool.{cases_lt, lt-ltb}
use Rattle.std.proofs.lemmas.List.Elements.{All-head, All-tail, All-weaker, filter-append}
use Rattle.std.proofs.lemmas.List.Folds.{find-append, list_any-append}
use Rattle.mt_sched.specs.Plan.{is_none_left, open_places}
use Rattle.mt_sched.proofs.Filters.{any_in, differ, filter_all, filter_range, none_in, not_less, or_false, range_split}
use Rattle.mt_sched.proofs.Orders.{insert_last, remove_filter}

-- ---- ranges
-- the first of a range that has one
range_head : (a n : ℕ) → a < n → range_with_len a (n - a) ≡ a ∷ range_with_len (a + 1) (n - (a + 1))
range_head a n less = let one : n - a ≡ suc (n - (a + 1)) = omega arith in ap (range_with_len a) one

range_none : (a n : ℕ) → n ≤ a → range_with_len a (n - a) ≡ []
range_none a n past = let none : n - a ≡ 0 = omega arith in ap (range_with_len a) none

-- a number below a range is not in it
before_range : (a n k : ℕ) → k < a → list_any (λ x. x == k) (range_with_len a n) ≡ false
before_range a zero k less = refl
before_range a (suc n) k less = ap (λ b. b || list_any (λ x. x == k) (range_with_len (a + 1) n)) (differ a k (λ same. omega arith) (a == k) refl) ∙ before_range (a + 1) n k (omega arith)

-- and one above all of a list is not in that
above_all : (k : ℕ) (xs : List ℕ) → All (λ x. x < k) xs → list_any (λ x. x == k) xs ≡ false
above_all k [] below = refl
above_all k (x ∷ xs) below =
    let less : x < k = All-head (λ y. y < k) x xs below in
    ap (λ b. b || list_any (λ y. y == k) xs) (differ x k (λ same. omega (arith, same, less)) (x == k) refl) ∙ above_all k xs (All-tail (λ y. y < k) x xs below)

-- to leave out what isn't there
off_list : (k : ℕ) (xs : List ℕ) → All (λ x. x < k) xs → filter (λ x. not (x == k)) xs ≡ xs
off_list k [] below = refl
off_list k (x ∷ xs) below =
    let less : x < k = All-head (λ y. y < k) x xs below in
    ap (λ b. cond (not b) (x ∷ filter (λ y. not (y == k)) xs) (filter (λ y. not (y == k)) xs)) (differ x k (λ same. omega (arith, same, less)) (x == k) refl)
    ∙ ap (λ l. x ∷ l) (off_list k xs (All-tail (λ y. y < k) x xs below))

off_range : (k a n : ℕ) → ((x : ℕ) → a ≤ x → x < a + n → x ≢ k) → filter (λ x. not (x == k)) (range_with_len a n) ≡ range_with_len a n
off_range k a n never =
    filter_range (λ x. not (x == k)) (λ x. true) a n (λ x from to. ap not (differ x k (never x from to) (x == k) refl)) ∙ filter_all (range_with_len a n)

-- a range whose first number fails a test
pub find_on : (test : ℕ → Bool) (a n : ℕ) → a < n → test a ≡ false → find test (range_with_len (a + 1) (n - (a + 1))) ≡ find test (range_with_len a (n - a))
find_on test a n less off = sym (ap (find test) (range_head a n less) ∙ ap (λ b. cond b (Some a) (find test (range_with_len (a + 1) (n - (a + 1))))) off)

module _ (passed : List ℕ) (rest places : ℕ) where
  -- ---- what is read
  pub open_complete : passed ≡ [] → rest ≡ places → true ≡ is_none_left (open_places passed rest places)
  open_complete none end = sym (ap (λ l. is_none_left (open_places l rest places)) none ∙ ap is_none_left (range_none rest places (omega (arith, end))))

  pub open_passed : passed ≢ [] → false ≡ is_none_left (open_places passed rest places)
  open_passed some = by passed some
    where
      by : (l : List ℕ) → l ≢ [] → false ≡ is_none_left (l ++ range_with_len rest (places - rest))
      by [] some = absurd (some refl)
      by (x ∷ xs) some = refl

  pub open_rest : passed ≡ [] → rest < places → false ≡ is_none_left (open_places passed rest places)
  open_rest none less = sym (ap (λ l. is_none_left (open_places l rest places)) none ∙ ap is_none_left (range_head rest places less))

  pub open_before : (k : ℕ) → k < rest → list_any (λ x. x == k) passed ≡ list_any (λ x. x == k) (open_places passed rest places)
  open_before k less =
      sym (list_any-append (λ x. x == k) passed (range_with_len rest (places - rest))
      ∙ ap (λ b. list_any (λ x. x == k) passed || b) (before_range rest (places - rest) k less)
      ∙ or_false (list_any (λ x. x == k) passed))

  pub open_behind : (k : ℕ) → rest ≤ k → rest ≤ places → All (λ x. x < rest) passed → nat_lt k places ≡ list_any (λ x. x == k) (open_places passed rest places)
  open_behind k from most below =
      sym (list_any-append (λ x. x == k) passed (range_with_len rest (places - rest))
      ∙ ap (λ b. b || list_any (λ x. x == k) (range_with_len rest (places - rest))) (above_all k passed (lower passed below))
      ∙ in_rest)
    where
      lower : (l : List ℕ) → All (λ x. x < rest) l → All (λ x. x < k) l
      lower l all = All-weaker (λ x. x < rest) (λ x. x < k) (λ x less. omega (arith, less, from)) l all

      in_rest : list_any (λ x. x == k) (range_with_len rest (places - rest)) ≡ nat_lt k places
      in_rest = by (cases_lt k places)
        where
          by : (k < places) ⊎ (places ≤ k) → list_any (λ x. x == k) (range_with_len rest (places - rest)) ≡ nat_lt k places
          by (inl less) = any_in rest (places - rest) k from (omega (arith, less, most)) ∙ sym (lt-ltb k places less)
          by (inr past) = none_in rest (places - rest) k (omega (arith, past, most)) ∙ sym (not_less k places past (nat_lt k places) refl)

  -- the first that passes a test
  pub find_open : (test : ℕ → Bool) (found : Option ℕ) → found ≡ find test passed → option_or found (find test (range_with_len rest (places - rest))) ≡ find test (open_places passed rest places)
  find_open test found is = ap (λ o. option_or o (find test (range_with_len rest (places - rest)))) is ∙ sym (find-append test passed (range_with_len rest (places - rest)))

  -- ---- what is fed
  pub open_more : (n : ℕ) → rest ≤ places → open_places passed rest (places + n) ≡ open_places passed rest places ++ range_with_len places n
  open_more n most =
      let all : places + n - rest ≡ (places - rest) + n = omega (arith, most) in
      let there : rest + (places - rest) ≡ places = omega (arith, most) in
      ap (λ m. passed ++ range_with_len rest m) all
      ∙ ap (λ l. passed ++ l) (range_split rest (places - rest) n ∙ ap (λ m. range_with_len rest (places - rest) ++ range_with_len m n) there)
      ∙ sym (append_assoc passed (range_with_len rest (places - rest)) (range_with_len places n))

  -- ---- what is passed and committed
  pub pass_one : All (λ x. x < rest) passed → rest < places → open_places (insert_key nat_cmp passed rest) (rest + 1) places ≡ open_places passed rest places
  pass_one below less =
      ap (λ l. l ++ range_with_len (rest + 1) (places - (rest + 1))) (insert_last passed rest below)
      ∙ append_assoc passed (rest ∷ []) (range_with_len (rest + 1) (places - (rest + 1)))
      ∙ ap (λ l. passed ++ l) (sym (range_head rest places less))

  pub off_passed : (k : ℕ) → k < rest → IsStrictlySortedBy nat_cmp passed → open_places (remove_key (is_at (nat_cmp k)) passed) rest places ≡ filter (λ x. not (x == k)) (open_places passed rest places)
  off_passed k less sorted =
      ap (λ l. l ++ range_with_len rest (places - rest)) (remove_filter k passed sorted)
      ∙ ap (λ l. filter (λ x. not (x == k)) passed ++ l) (sym (off_range k rest (places - rest) (λ x from to same. omega (arith, from, same, less))))
      ∙ sym (filter-append (λ x. not (x == k)) passed (range_with_len rest (places - rest)))

  pub off_end : (k : ℕ) → rest ≤ places → places ≤ k → All (λ x. x < rest) passed → open_places passed rest places ≡ filter (λ x. not (x == k)) (open_places passed rest places)
  off_end k most past below =
      sym (filter-append (λ x. not (x == k)) passed (range_with_len rest (places - rest))
      ∙ ap (λ l. l ++ filter (λ x. not (x == k)) (range_with_len rest (places - rest))) (off_list k passed (All-weaker (λ x. x < rest) (λ x. x < k) (λ x less. omega (arith, less, most, past)) passed below))
      ∙ ap (λ l. passed ++ l) (off_range k rest (places - rest) (λ x from to same. omega (arith, to, same, past, most))))

  -- the first of those from which on none is
  pub off_rest : rest < places → All (λ x. x < rest) passed → open_places passed (rest + 1) places ≡ filter (λ x. not (x == rest)) (open_places passed rest places)
  off_rest less below =
      sym (ap (λ l. filter (λ x. not (x == rest)) (passed ++ l)) (range_head rest places less)
      ∙ filter-append (λ x. not (x == rest)) passed (rest ∷ range_with_len (rest + 1) (places - (rest + 1)))
      ∙ ap (λ l. l ++ filter (λ x. not (x == rest)) (rest ∷ range_with_len (rest + 1) (places - (rest + 1)))) (off_list rest passed below)
      ∙ ap (λ l. passed ++ l) here)
    where
      here : filter (λ x. not (x == rest)) (rest ∷ range_with_len (rest + 1) (places - (rest + 1))) ≡ range_with_len (rest + 1) (places - (rest + 1))
      here =
          ap (λ b. cond (not b) (rest ∷ filter (λ x. not (x == rest)) (range_with_len (rest + 1) (places - (rest + 1)))) (filter (λ x. not (x == rest)) (range_with_len (rest + 1) (places - (rest + 1))))) (eq-eqb rest rest refl)
          ∙ off_range rest (rest + 1) (places - (rest + 1)) (λ x from to same. omega (arith, from, same))
