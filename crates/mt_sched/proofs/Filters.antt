-- Tests over ranges of numbers, and over the numbered elements of a list.
use Rattle.std.proofs.Common.{◌≡◌, ℕ, ◌+◌, ◌<◌, ◌≤◌, ◌==◌, nat_lt, Bool, true, false, not, cond, ◌&&◌, ◌||◌, List, [], ◌∷◌, ◌++◌, map, Option, Some, None, refl, sym, ap, subst, ◌∙◌, arith, zero, suc, ◌⊎◌, inl, inr, eq-eqb, true≢false}
use Rattle.std.specs.List.{enumerate_from, filter, flat_map, list_all, list_any, range_with_len, slice_get}
use Rattle.std.specs.Option.{option_map}
use Rattle.std.proofs.lemmas.Bool.{cases_lt, eqb-true, lt-ltb, ltb-true}
use Rattle.mt_model.proofs.Maps.{flat_map-map, slice_get-map}
use Rattle.mt_sched.specs.Plan.{is_none_left}

pub and_false : (b : Bool) → (b && false) ≡ false
and_false true = refl
and_false false = refl

pub or_false : (b : Bool) → (b || false) ≡ b
or_false true = refl
or_false false = refl

pub or_true : (b : Bool) → (b || true) ≡ true
or_true true = refl
or_true false = refl

pub not_less : (a b : ℕ) → b ≤ a → (t : Bool) → nat_lt a b ≡ t → t ≡ false
not_less a b le true e = let less : a < b = ltb-true a b e in absurd (omega (arith, less, le))
not_less a b le false e = refl

pub differ : (a b : ℕ) → (a ≡ b → ⊥) → (t : Bool) → a == b ≡ t → t ≡ false
differ a b never true e = absurd (never (eqb-true a b e))
differ a b never false e = refl

-- the test of two numbers is symmetric
pub eqb_flip : (a b : ℕ) → (a == b) ≡ (b == a)
eqb_flip a b = by (a == b) refl
  where
    by : (t : Bool) → a == b ≡ t → t ≡ (b == a)
    by true e = sym (eq-eqb b a (sym (eqb-true a b e)))
    by false e = sym (differ b a (λ same. true≢false (sym (eq-eqb a b (sym same)) ∙ e)) (b == a) refl)

pub none_left : (t : ℕ → Bool) (xs : List ℕ) → is_none_left (filter (λ k. not (t k)) xs) ≡ list_all t xs
none_left t [] = refl
none_left t (x ∷ xs) = by (t x) (none_left t xs)
  where
    by : (b : Bool) → is_none_left (filter (λ k. not (t k)) xs) ≡ list_all t xs → is_none_left (cond (not b) (x ∷ filter (λ k. not (t k)) xs) (filter (λ k. not (t k)) xs)) ≡ (b && list_all t xs)
    by true more = more
    by false more = refl

module _ {X : Type 0} where
  pub filter_all : (xs : List X) → filter (λ x. true) xs ≡ xs
  filter_all [] = refl
  filter_all (x ∷ xs) = ap (λ l. x ∷ l) (filter_all xs)

  pub filter_none : (xs : List X) → filter (λ x. false) xs ≡ []
  filter_none [] = refl
  filter_none (x ∷ xs) = filter_none xs

  pub filter_twice : (f g : X → Bool) (xs : List X) → filter f (filter g xs) ≡ filter (λ x. g x && f x) xs
  filter_twice f g [] = refl
  filter_twice f g (x ∷ xs) = by (g x) (filter_twice f g xs)
    where
      by : (b : Bool) → filter f (filter g xs) ≡ filter (λ x. g x && f x) xs → filter f (cond b (x ∷ filter g xs) (filter g xs)) ≡ cond (b && f x) (x ∷ filter (λ x. g x && f x) xs) (filter (λ x. g x && f x) xs)
      by true more = ap (λ l. cond (f x) (x ∷ l) l) more
      by false more = more

pub filter_range : (f g : ℕ → Bool) (a n : ℕ) → ((k : ℕ) → a ≤ k → k < a + n → f k ≡ g k) → filter f (range_with_len a n) ≡ filter g (range_with_len a n)
filter_range f g a zero same = refl
filter_range f g a (suc n) same =
    ap (λ b. cond b (a ∷ filter f (range_with_len (a + 1) n)) (filter f (range_with_len (a + 1) n))) (same a (omega arith) (omega arith))
    ∙ ap (λ l. cond (g a) (a ∷ l) l) (filter_range f g (a + 1) n (λ k from to. same k (omega arith) (omega arith)))

pub range_split : (a n m : ℕ) → range_with_len a (n + m) ≡ range_with_len a n ++ range_with_len (a + n) m
range_split a zero m =
    let none : zero + m ≡ m = omega arith in
    let here : a ≡ a + zero = omega arith in
    ap (range_with_len a) none ∙ ap (λ b. range_with_len b m) here
range_split a (suc n) m =
    let on : suc n + m ≡ suc (n + m) = omega arith in
    let there : a + 1 + n ≡ a + suc n = omega arith in
    ap (range_with_len a) on ∙ ap (λ l. a ∷ l) (range_split (a + 1) n m) ∙ ap (λ b. a ∷ range_with_len (a + 1) n ++ range_with_len b m) there

pub any_in : (a n k : ℕ) → a ≤ k → k < a + n → list_any (λ x. x == k) (range_with_len a n) ≡ true
any_in a zero k from to = absurd (omega arith)
any_in a (suc n) k from to = by (a == k) refl (λ more. any_in (a + 1) n k more (omega arith))
  where
    by : (b : Bool) → a == k ≡ b → (a + 1 ≤ k → list_any (λ x. x == k) (range_with_len (a + 1) n) ≡ true) → (b || list_any (λ x. x == k) (range_with_len (a + 1) n)) ≡ true
    by true e more = refl
    by false e more = more (let off : a ≡ k → ⊥ = λ same. true≢false (sym (eq-eqb a k same) ∙ e) in omega (arith, off, from))

pub none_in : (a n k : ℕ) → a + n ≤ k → list_any (λ x. x == k) (range_with_len a n) ≡ false
none_in a zero k past = refl
none_in a (suc n) k past = ap (λ b. b || list_any (λ x. x == k) (range_with_len (a + 1) n)) (differ a k (λ same. omega arith) (a == k) refl) ∙ none_in (a + 1) n k (omega arith)

pub any_range : (n k : ℕ) → list_any (λ x. x == k) (range_with_len 0 n) ≡ nat_lt k n
any_range n k = by (cases_lt k n)
  where
    by : (k < n) ⊎ (n ≤ k) → list_any (λ x. x == k) (range_with_len 0 n) ≡ nat_lt k n
    by (inl less) = any_in 0 n k (omega arith) (omega arith) ∙ sym (lt-ltb k n less)
    by (inr le) = none_in 0 n k (omega arith) ∙ sym (not_less k n le (nat_lt k n) refl)

any_case : (t : ℕ → Bool) (y k : ℕ) (ys : List ℕ) (b d : Bool) → t y ≡ b → y == k ≡ d → list_any (λ x. x == k) (filter t ys) ≡ (list_any (λ x. x == k) ys && t k)
    → list_any (λ x. x == k) (cond b (y ∷ filter t ys) (filter t ys)) ≡ ((d || list_any (λ x. x == k) ys) && t k)
any_case t y k ys true true p q more = ap (λ c. c || list_any (λ x. x == k) (filter t ys)) q ∙ sym p ∙ ap t (eqb-true y k q)
any_case t y k ys true false p q more = ap (λ c. c || list_any (λ x. x == k) (filter t ys)) q ∙ more
any_case t y k ys false true p q more =
    let off : t k ≡ false = ap t (sym (eqb-true y k q)) ∙ p in
    more ∙ ap (λ c. list_any (λ x. x == k) ys && c) off ∙ and_false (list_any (λ x. x == k) ys) ∙ sym off
any_case t y k ys false false p q more = more

pub any_filter : (t : ℕ → Bool) (k : ℕ) (xs : List ℕ) → list_any (λ x. x == k) (filter t xs) ≡ (list_any (λ x. x == k) xs && t k)
any_filter t k [] = refl
any_filter t k (y ∷ ys) = any_case t y k ys (t y) (y == k) refl refl (any_filter t k ys)

module _ {X : Type 0} where
  numbered_agree : {Y : Type 0} (f g : ℕ × X → Y) (n : ℕ) (xs : List X) → ((i : ℕ) (x : X) → slice_get xs i ≡ Some x → f (n + i, x) ≡ g (n + i, x)) → map f (enumerate_from n xs) ≡ map g (enumerate_from n xs)
  numbered_agree f g n [] same = refl
  numbered_agree f g n (x ∷ xs) same =
      let here : n + 0 ≡ n = omega arith in
      let head : f (n, x) ≡ g (n, x) = subst (λ m. f (m, x) ≡ g (m, x)) here (same 0 x refl) in
      ap (λ y. y ∷ map f (enumerate_from (n + 1) xs)) head
      ∙ ap (λ l. g (n, x) ∷ l) (numbered_agree f g (n + 1) xs (λ i y at. let on : n + suc i ≡ n + 1 + i = omega arith in subst (λ m. f (m, y) ≡ g (m, y)) on (same (suc i) y at)))

  -- functions that agree at each element under its number give the same
  pub map_numbered : {Y : Type 0} (f g : ℕ × X → Y) (xs : List X) → ((i : ℕ) (x : X) → slice_get xs i ≡ Some x → f (i, x) ≡ g (i, x)) → map f (enumerate_from 0 xs) ≡ map g (enumerate_from 0 xs)
  map_numbered f g xs same = numbered_agree f g 0 xs (λ i x at. let on : i ≡ 0 + i = omega arith in subst (λ m. f (m, x) ≡ g (m, x)) on (same i x at))

  pub flat_map_numbered : {Y : Type 0} (f g : ℕ × X → List Y) (xs : List X) → ((i : ℕ) (x : X) → slice_get xs i ≡ Some x → f (i, x) ≡ g (i, x)) → flat_map f (enumerate_from 0 xs) ≡ flat_map g (enumerate_from 0 xs)
  flat_map_numbered f g xs same =
      sym (flat_map-map f (λ l. l) (enumerate_from 0 xs)) ∙ ap (flat_map (λ l. l)) (map_numbered f g xs same) ∙ flat_map-map g (λ l. l) (enumerate_from 0 xs)

  slice_get_from : (n : ℕ) (xs : List X) (i : ℕ) → slice_get (enumerate_from n xs) i ≡ option_map (λ x. (n + i, x)) (slice_get xs i)
  slice_get_from n [] i = refl
  slice_get_from n (x ∷ xs) zero = let here : n ≡ n + 0 = omega arith in ap (λ m. Some (m, x)) here
  slice_get_from n (x ∷ xs) (suc i) = let on : n + 1 + i ≡ n + suc i = omega arith in slice_get_from (n + 1) xs i ∙ ap (λ m. option_map (λ y. (m, y)) (slice_get xs i)) on

  option_map_twice : {Y Z : Type 0} (f : Y → Z) (g : X → Y) (o : Option X) → option_map f (option_map g o) ≡ option_map (λ x. f (g x)) o
  option_map_twice f g None = refl
  option_map_twice f g (Some x) = refl

  pub slice_get_numbered : {Y : Type 0} (f : ℕ × X → Y) (xs : List X) (i : ℕ) → slice_get (map f (enumerate_from 0 xs)) i ≡ option_map (λ x. f (i, x)) (slice_get xs i)
  slice_get_numbered f xs i =
      let on : 0 + i ≡ i = omega arith in
      slice_get-map f (enumerate_from 0 xs) i
      ∙ ap (option_map f) (slice_get_from 0 xs i)
      ∙ option_map_twice f (λ x. (0 + i, x)) (slice_get xs i)
      ∙ ap (λ m. option_map (λ x. f (m, x)) (slice_get xs i)) on
