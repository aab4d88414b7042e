-- Members and distinct members of lists.
use Rattle.std.proofs.Common.{◌≡◌, ◌==◌, ◌⊎◌, inl, inr, ℕ, zero, suc, ◌+◌, ◌<◌, ◌≤◌, Bool, true, false, not, cond, List, [], ◌∷◌, ◌++◌, length, map, refl, ap, sym, subst, ◌∙◌, eqb, get_or, arith}
use Rattle.std.specs.Prelude.{filter, ◌||◌, Option, Some, None}
use Rattle.std.specs.List.{IsDistinct, AllByRecursion, Contains, find, list_any}
use Rattle.std.proofs.lemmas.Map.Keys.{IsDistinct-head, IsDistinct-tail, IsDistinct-cons}

abbrev pub In : {X : Type 0} → X → List X → Type 0
In x [] = ⊥
In x (y ∷ ys) = (y ≡ x) ⊎ In x ys

pub in_at : {X : Type 0} (xs : List X) (x : X) (k : ℕ) → k < length xs → get_or xs k x ≡ x → In x xs
in_at [] x k l e = absurd (omega arith)
in_at (y ∷ ys) x zero l e = inl e
in_at (y ∷ ys) x (suc k) l e = inr (in_at ys x k (omega arith) e)

pub in_from : {X : Type 0} (xs : List X) (x : X) → Contains xs x → In x xs
in_from xs x c = in_at xs x c.0 c.1 c.2

pub in_map : {X Y : Type 0} (f : X → Y) (xs : List X) (y : Y) → In y (map f xs) → (x : X) × In x xs × (f x ≡ y)
in_map f [] y h = absurd h
in_map {X} {Y} f (x ∷ xs) y (inl e) = (x, inl refl, e)
in_map {X} {Y} f (x ∷ xs) y (inr h) = let r = in_map f xs y h in (r.0, inr r.1, r.2)

pub in_mapped : {X Y : Type 0} (f : X → Y) (xs : List X) (x : X) → In x xs → In (f x) (map f xs)
in_mapped f [] x h = absurd h
in_mapped {X} {Y} f (y ∷ ys) x (inl e) = inl (ap f e)
in_mapped {X} {Y} f (y ∷ ys) x (inr h) = inr (in_mapped f ys x h)

pub all_in : {X : Type 0} (P : X → Type 0) (xs : List X) (x : X) → AllByRecursion P xs → In x xs → P x
all_in P [] x a h = absurd h
all_in {X} P (y ∷ ys) x a (inl e) = subst P e a.0
all_in {X} P (y ∷ ys) x a (inr h) = all_in P ys x a.1 h

pub in_middle : {X : Type 0} (front : List X) (x : X) (back : List X) → In x (front ++ x ∷ back)
in_middle [] x back = inl refl
in_middle (y ∷ front) x back = inr (in_middle front x back)

-- all of two lists, one behind another
pub all_both : {X : Type 0} (P : X → Type 0) (xs ys : List X) → AllByRecursion P xs → AllByRecursion P ys → AllByRecursion P (xs ++ ys)
all_both P [] ys a b = b
all_both P (x ∷ xs) ys a b = (a.0, all_both P xs ys a.1 b)

pub all_first : {X : Type 0} (P : X → Type 0) (xs ys : List X) → AllByRecursion P (xs ++ ys) → AllByRecursion P xs
all_first P [] ys a = tt
all_first P (x ∷ xs) ys a = (a.0, all_first P xs ys a.1)

pub all_last : {X : Type 0} (P : X → Type 0) (xs ys : List X) → AllByRecursion P (xs ++ ys) → AllByRecursion P ys
all_last P [] ys a = a
all_last P (x ∷ xs) ys a = all_last P xs ys a.1

-- without one in the middle
pub all_but : {X : Type 0} (P : X → Type 0) (front : List X) (x : X) (back : List X) → AllByRecursion P (front ++ x ∷ back) → AllByRecursion P (front ++ back)
all_but P front x back a = all_both P front back (all_first P front (x ∷ back) a) (all_last P front (x ∷ back) a).1

pub all_more : {X : Type 0} (P Q : X → Type 0) → ((x : X) → P x → Q x) → (xs : List X) → AllByRecursion P xs → AllByRecursion Q xs
all_more P Q more [] a = tt
all_more P Q more (x ∷ xs) a = (more x a.0, all_more P Q more xs a.1)

pub all_kept : {X : Type 0} (P : X → Type 0) (p : X → Bool) (xs : List X) → AllByRecursion P xs → AllByRecursion P (filter p xs)
all_kept P p [] a = tt
all_kept {X} P p (x ∷ xs) a = by (p x) (filter p xs) (all_kept P p xs a.1)
  where
    by : (b : Bool) (ys : List X) → AllByRecursion P ys → AllByRecursion P (cond {A = List X} b (x ∷ ys) ys)
    by true ys r = (a.0, r)
    by false ys r = r

pub all_passed : {X : Type 0} (p : X → Bool) (xs : List X) → AllByRecursion (λ x. p x ≡ true) (filter p xs)
all_passed p [] = tt
all_passed {X} p (x ∷ xs) = by (p x) refl (filter p xs) (all_passed p xs)
  where
    by : (b : Bool) → p x ≡ b → (ys : List X) → AllByRecursion (λ x. p x ≡ true) ys → AllByRecursion (λ x. p x ≡ true) (cond {A = List X} b (x ∷ ys) ys)
    by true is ys r = (is, r)
    by false is ys r = r

module _ {X K : Type 0} (eq : K → K → Bool) (f : X → K) where
  some_kept : (P : K → Type 0) (p : X → Bool) (xs : List X) → AllByRecursion P (map f xs) → AllByRecursion P (map f (filter p xs))
  some_kept P p [] a = tt
  some_kept P p (x ∷ xs) a = by (p x) (filter p xs) (some_kept P p xs a.1)
    where
      by : (b : Bool) (ys : List X) → AllByRecursion P (map f ys) → AllByRecursion P (map f (cond {A = List X} b (x ∷ ys) ys))
      by true ys r = (a.0, r)
      by false ys r = r

  pub distinct_filter : (p : X → Bool) (xs : List X) → IsDistinct eq (map f xs) → IsDistinct eq (map f (filter p xs))
  distinct_filter p [] d = d
  distinct_filter p (x ∷ xs) d = by (p x) (filter p xs) (some_kept _ p xs (IsDistinct-head eq (f x) (map f xs) d)) (distinct_filter p xs (IsDistinct-tail eq (f x) (map f xs) d))
    where
      by : (b : Bool) (ys : List X) → AllByRecursion (λ n. eq (f x) n ≡ false) (map f ys) → IsDistinct eq (map f ys) → IsDistinct eq (map f (cond {A = List X} b (x ∷ ys) ys))
      by true ys h r = IsDistinct-cons eq (f x) (map f ys) h r
      by false ys h r = r

eqb_refl : (n : ℕ) → (n == n) ≡ false → ⊥
eqb_refl n = grind arith

-- two members with the same number are one
pub same_member : {X : Type 0} (f : X → ℕ) (xs : List X) (x y : X) → IsDistinct eqb (map f xs) → In x xs → In y xs → f x ≡ f y → x ≡ y
same_member f [] x y d h k e = absurd h
same_member {X} f (z ∷ zs) x y d (inl h) (inl k) e = sym h ∙ k
same_member {X} f (z ∷ zs) x y d (inr h) (inr k) e = same_member f zs x y (IsDistinct-tail eqb (f z) (map f zs) d) h k e
same_member {X} f (z ∷ zs) x y d (inl h) (inr k) e = absurd (eqb_refl (f z) (subst (λ (n : ℕ). (f z == n) ≡ false) (sym e ∙ ap f (sym h)) (all_in _ (map f zs) (f y) (IsDistinct-head eqb (f z) (map f zs) d) (in_mapped f zs y k))))
same_member {X} f (z ∷ zs) x y d (inr h) (inl k) e = absurd (eqb_refl (f z) (subst (λ (n : ℕ). (f z == n) ≡ false) (e ∙ ap f (sym k)) (all_in _ (map f zs) (f x) (IsDistinct-head eqb (f z) (map f zs) d) (in_mapped f zs x h))))

-- what is left out anyway may go before
pub filter_goes : {X : Type 0} (p q : X → Bool) (xs : List X) → ((x : X) → In x xs → q x ≡ false → p x ≡ false) → filter p (filter q xs) ≡ filter p xs
filter_goes p q [] h = refl
filter_goes {X} p q (x ∷ xs) h = by (q x) refl (filter q xs) (filter_goes p q xs (λ y m. h y (inr m)))
  where
    pick : (b : Bool) → p x ≡ b → b ≡ false → (ys : List X) → filter p xs ≡ cond {A = List X} (p x) (x ∷ filter p xs) (filter p xs)
    pick b e n ys = subst (λ (b : Bool). filter p xs ≡ cond {A = List X} b (x ∷ filter p xs) (filter p xs)) (sym (e ∙ n)) refl

    by : (b : Bool) → q x ≡ b → (ys : List X) → filter p ys ≡ filter p xs → filter p (cond {A = List X} b (x ∷ ys) ys) ≡ cond {A = List X} (p x) (x ∷ filter p xs) (filter p xs)
    by true e ys r = ap (λ (zs : List X). cond {A = List X} (p x) (x ∷ zs) zs) r
    by false e ys r = r ∙ pick (p x) refl (h x (inl refl) e) ys

pub filter_all : {X : Type 0} (p : X → Bool) (xs : List X) → AllByRecursion (λ x. p x ≡ true) xs → filter p xs ≡ xs
filter_all p [] a = refl
filter_all {X} p (x ∷ xs) a = subst (λ (b : Bool). cond {A = List X} b (x ∷ filter p xs) (filter p xs) ≡ x ∷ xs) (sym a.0) (ap (λ (ys : List X). x ∷ ys) (filter_all p xs a.1))

self_or : (t : ℕ) (b : Bool) → (t == t || b) ≡ true
self_or t b = grind arith

or_true : (a b : Bool) → b ≡ true → (a || b) ≡ true
or_true true b e = refl
or_true false b e = e

pub any_in : {X : Type 0} (f : X → ℕ) (t : ℕ) (xs : List X) (x : X) → In x xs → f x ≡ t → list_any (λ n. t == n) (map f xs) ≡ true
any_in f t [] x h e = absurd h
any_in {X} f t (y ∷ ys) x (inl h) e = subst (λ (m : ℕ). (t == m || list_any (λ n. t == n) (map f ys)) ≡ true) (sym (ap f h ∙ e)) (self_or t _)
any_in {X} f t (y ∷ ys) x (inr h) e = or_true (t == f y) (list_any (λ n. t == n) (map f ys)) (any_in f t ys x h e)

pub filter_most : {X : Type 0} (p : X → Bool) (xs : List X) → length (filter p xs) ≤ length xs
filter_most p [] = omega arith
filter_most {X} p (x ∷ xs) = by (p x) (filter p xs) (filter_most p xs)
  where
    by : (b : Bool) (ys : List X) → length ys ≤ length xs → length (cond {A = List X} b (x ∷ ys) ys) ≤ length (x ∷ xs)
    by true ys h = omega arith
    by false ys h = omega arith

pub filter_less : {X : Type 0} (p : X → Bool) (xs : List X) (x : X) → In x xs → p x ≡ false → length (filter p xs) < length xs
filter_less p [] x h e = absurd h
filter_less {X} p (y ∷ ys) x (inl h) e = subst (λ (b : Bool). length (cond {A = List X} b (y ∷ filter p ys) (filter p ys)) < length (y ∷ ys)) (sym (ap p h ∙ e)) (omega (arith, filter_most p ys))
filter_less {X} p (y ∷ ys) x (inr h) e = by (p y) (filter p ys) (filter_less p ys x h e)
  where
    by : (b : Bool) (zs : List X) → length zs < length ys → length (cond {A = List X} b (y ∷ zs) zs) < length (y ∷ ys)
    by true zs h = omega arith
    by false zs h = omega arith

-- a list before and behind a member
pub record SplitAt {X : Type 0} (x : X) (xs : List X) : Type 0 where
  pub front : List X
  pub back : List X
  pub is : xs ≡ front ++ x ∷ back

pub split_at : {X : Type 0} (x : X) (xs : List X) → In x xs → SplitAt x xs
split_at x [] h = absurd h
split_at {X} x (y ∷ ys) (inl e) = record { front = []; back = ys; is = ap (λ (z : X). z ∷ ys) e }
split_at {X} x (y ∷ ys) (inr h) = let s = split_at x ys h in record { front = y ∷ s.front; back = s.back; is = ap (λ (zs : List X). y ∷ zs) s.is }
