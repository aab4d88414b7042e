-- Places in an ordered set.
use Rattle.std.proofs.Common.{◌≡◌, ℕ, ◌+◌, ◌<◌, ◌≤◌, ◌==◌, Bool, true, false, not, cond, List, [], ◌∷◌, ◌++◌, refl, sym, ap, subst, ◌∙◌, arith, ◌⊎◌, inl, inr, eq-eqb}
use Rattle.std.specs.Prelude.{All}
use Rattle.std.specs.List.{filter, list_any, AllByRecursion}
use Rattle.std.specs.List.Sorted.{IsStrictlySortedBy}
use Rattle.std.specs.BTreeMap.{is_at}
use Rattle.std.specs.BTreeSet.{insert_key}
use Rattle.std.specs.Set.{remove_key}
use Rattle.std.specs.Ordering.{nat_cmp, is_eq, match_ordering}
use Rattle.std.specs.Cmp.{nat_cmp_is}
use Rattle.std.specs.declared.cmp.Ordering.TheVariants.{Less, Equal, Greater}
use Rattle.std.proofs.lemmas.Bool.{cases_lt, eqb-true}
use Rattle.std.proofs.lemmas.List.Elements.{All-head, All-push, All-tail, All-weaker}
use Rattle.std.proofs.lemmas.Map.Keys.{sorted_head, sorted_tail}
use Rattle.mt_model.proofs.Maps.{same_function}
use Rattle.mt_sched.proofs.Filters.{differ}

pub greater : (k x : ℕ) → x < k → nat_cmp k x ≡ Greater
greater k x less = sym (nat_cmp_is k x Greater less)

-- a number above all goes to the end
pub insert_last : (xs : List ℕ) (k : ℕ) → All (λ x. x < k) xs → insert_key nat_cmp xs k ≡ xs ++ k ∷ []
insert_last [] k below = refl
insert_last (x ∷ xs) k below =
    ap (λ o. match_ordering o (k ∷ x ∷ xs) (x ∷ xs) (x ∷ insert_key nat_cmp xs k)) (greater k x (All-head (λ y. y < k) x xs below))
    ∙ ap (λ l. x ∷ l) (insert_last xs k (All-tail (λ y. y < k) x xs below))

pub same_test : (p x : ℕ) → is_eq (nat_cmp p x) ≡ (x == p)
same_test p x = by (cases_lt p x) (cases_lt x p)
  where
    by : (p < x) ⊎ (x ≤ p) → (x < p) ⊎ (p ≤ x) → is_eq (nat_cmp p x) ≡ (x == p)
    by (inl less) b = ap is_eq (sym (nat_cmp_is p x Less less)) ∙ sym (differ x p (λ e. omega (arith, e, less)) (x == p) refl)
    by (inr le) (inl less) = ap is_eq (sym (nat_cmp_is p x Greater less)) ∙ sym (differ x p (λ e. omega (arith, e, less)) (x == p) refl)
    by (inr le) (inr ge) = let e : p ≡ x = omega (arith, le, ge) in ap is_eq (sym (nat_cmp_is p x Equal e)) ∙ sym (eq-eqb x p (sym e))

-- a set has a number where its list does
pub contains_open : (p : ℕ) (xs : List ℕ) → list_any (is_at (nat_cmp p)) xs ≡ list_any (λ k. k == p) xs
contains_open p xs = ap (λ t. list_any t xs) (same_function (is_at (nat_cmp p)) (λ k. k == p) (same_test p))

filter_same : (p : ℕ) (xs : List ℕ) → AllByRecursion (λ y. nat_cmp p y ≡ Less) xs → filter (λ k. not (k == p)) xs ≡ xs
filter_same p [] above = refl
filter_same p (x ∷ xs) above =
    let not_it : (x == p) ≡ false = sym (same_test p x) ∙ ap is_eq above.0 in
    ap (λ b. cond (not b) (x ∷ filter (λ k. not (k == p)) xs) (filter (λ k. not (k == p)) xs)) not_it ∙ ap (λ l. x ∷ l) (filter_same p xs above.1)

remove_case : (p x : ℕ) (xs : List ℕ) (b : Bool) → x == p ≡ b → AllByRecursion (λ y. nat_cmp x y ≡ Less) xs → remove_key (is_at (nat_cmp p)) xs ≡ filter (λ k. not (k == p)) xs
    → cond b xs (x ∷ remove_key (is_at (nat_cmp p)) xs) ≡ cond (not b) (x ∷ filter (λ k. not (k == p)) xs) (filter (λ k. not (k == p)) xs)
remove_case p x xs true is above more = sym (filter_same p xs (subst (λ m. AllByRecursion (λ y. nat_cmp m y ≡ Less) xs) (eqb-true x p is) above))
remove_case p x xs false is above more = ap (λ l. x ∷ l) more

-- to remove a number is to leave out what is equal to it
pub remove_filter : (p : ℕ) (xs : List ℕ) → IsStrictlySortedBy nat_cmp xs → remove_key (is_at (nat_cmp p)) xs ≡ filter (λ k. not (k == p)) xs
remove_filter p [] sorted = refl
remove_filter p (x ∷ xs) sorted =
    ap (λ b. cond b xs (x ∷ remove_key (is_at (nat_cmp p)) xs)) (same_test p x)
    ∙ remove_case p x xs (x == p) refl (sorted_head nat_cmp x xs sorted) (remove_filter p xs (sorted_tail nat_cmp x xs sorted))

-- where each is below the next number, the next one goes to the end, and all are below the one after it
pub all_below_next : (xs : List ℕ) (n : ℕ) → All (λ x. x < n) xs → All (λ x. x < n + 1) (xs ++ n ∷ [])
all_below_next xs n below =
    All-push (λ x. x < n + 1) xs n (All-weaker (λ x. x < n) (λ x. x < n + 1) (λ x b. omega arith) xs below) (omega arith)
