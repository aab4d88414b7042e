-- Which places are listed, as truth values.
use Rattle.std.proofs.Common.{◌≡◌, ℕ, ◌+◌, ◌<◌, ◌≤◌, nat_lt, zero, suc, Bool, true, false, cond, not, ◌&&◌, List, [], ◌∷◌, length, map, replicate, set, refl, sym, ap, ◌∙◌, arith, inl, inr}
use Rattle.std.specs.List.{list_all, range_with_len}
use Rattle.std.proofs.lemmas.Bool.{cases_lt, le-ltb, lt-ltb}
use Rattle.std.proofs.lemmas.List.Sums.{sum_by-cons}
use Rattle.mt_checker.specs.Sheets.{is_open, is_whole_list, places_left}

-- how many places are not listed, one by one
pub left_cons : (b : Bool) (bs : List Bool) → places_left (b ∷ bs) ≡ cond (not b) 1 0 + places_left bs
left_cons b bs = sum_by-cons (λ y. cond (not y) 1 0) b bs

pub left_true : (bs : List Bool) → places_left (true ∷ bs) ≡ places_left bs
left_true bs = let e : places_left (true ∷ bs) ≡ 0 + places_left bs = left_cons true bs in omega (arith, e)

pub left_false : (bs : List Bool) → places_left (false ∷ bs) ≡ 1 + places_left bs
left_false bs = left_cons false bs

-- at first all are left
pub all_left : (count : ℕ) → places_left (replicate count false) ≡ count
all_left zero = refl
all_left (suc n) = let e = left_false (replicate n false) in let more = all_left n in omega (arith, e, more)

-- none is left where each is listed
pub none_left : (bs : List Bool) → places_left bs ≡ 0 → is_whole_list bs ≡ true
none_left [] e = refl
none_left (true ∷ bs) e = let f = left_true bs in none_left bs (omega (arith, e, f))
none_left (false ∷ bs) e = let f = left_false bs in absurd (omega (arith, e, f))

pub some_left : (bs : List Bool) → (places_left bs ≡ 0 → ⊥) → is_whole_list bs ≡ false
some_left [] e = absurd (e refl)
some_left (true ∷ bs) e = let f = left_true bs in some_left bs (λ z. e (omega (arith, z, f)))
some_left (false ∷ bs) e = refl

-- an open place is there, and one fewer is left once it is listed
pub open_within : (bs : List Bool) (k : ℕ) → is_open bs k ≡ true → k < length bs
open_within [] k e = cc
open_within (b ∷ bs) zero e = omega arith
open_within (b ∷ bs) (suc k) e = let less = open_within bs k e in omega (arith, less)

pub open_left : (bs : List Bool) (k : ℕ) → is_open bs k ≡ true → places_left bs ≡ 1 + places_left (set bs k true)
open_left [] k e = cc
open_left (true ∷ bs) zero e = cc
open_left (false ∷ bs) zero e = let f = left_false bs in let g = left_true bs in omega (arith, f, g)
open_left (true ∷ bs) (suc k) e = let f = left_true bs in let g = left_true (set bs k true) in let more = open_left bs k e in omega (arith, f, g, more)
open_left (false ∷ bs) (suc k) e = let f = left_false bs in let g = left_false (set bs k true) in let more = open_left bs k e in omega (arith, f, g, more)

-- ---- over a range

at_range : (f : ℕ → Bool) (a n k : ℕ) → k < n → is_open (map f (range_with_len a n)) k ≡ not (f (a + k))
at_range f a zero k less = absurd (omega (arith, less))
at_range f a (suc n) zero less = let here : a ≡ a + 0 = omega arith in ap (λ m. not (f m)) here
at_range f a (suc n) (suc k) less = let on : a + 1 + k ≡ a + suc k = omega arith in at_range f (a + 1) n k (omega (arith, less)) ∙ ap (λ m. not (f m)) on

past_range : (f : ℕ → Bool) (a n k : ℕ) → n ≤ k → is_open (map f (range_with_len a n)) k ≡ false
past_range f a zero k past = refl
past_range f a (suc n) zero past = absurd (omega (arith, past))
past_range f a (suc n) (suc k) past = past_range f (a + 1) n k (omega (arith, past))

-- whether a place of a range is open
pub open_range : (f : ℕ → Bool) (n k : ℕ) → is_open (map f (range_with_len 0 n)) k ≡ (nat_lt k n && not (f k))
open_range f n k = elim (cases_lt k n) [
  | inl less ↦ (let none : 0 + k ≡ k = omega arith in at_range f 0 n k less ∙ ap (λ m. not (f m)) none ∙ ap (λ b. b && not (f k)) (sym (lt-ltb k n less)))
  | inr past ↦ past_range f 0 n k past ∙ ap (λ b. b && not (f k)) (sym (le-ltb k n past))
]

same_range : (f g : ℕ → Bool) (a n : ℕ) → ((r : ℕ) → a ≤ r → g r ≡ f r) → map g (range_with_len a n) ≡ map f (range_with_len a n)
same_range f g a zero same = refl
same_range f g a (suc n) same = ap (λ y. y ∷ map g (range_with_len (a + 1) n)) (same a (omega arith)) ∙ ap (λ l. f a ∷ l) (same_range f g (a + 1) n (λ r le. same r (omega (arith, le))))

-- one place of a range is listed
pub set_range : (f g : ℕ → Bool) (a n k : ℕ) → k < n → g (a + k) ≡ true → ((r : ℕ) → (r ≡ a + k → ⊥) → g r ≡ f r) → set (map f (range_with_len a n)) k true ≡ map g (range_with_len a n)
set_range f g a zero k less is same = absurd (omega (arith, less))
set_range f g a (suc n) zero less is same =
    let here : a + 0 ≡ a = omega arith in
    ap (λ l. true ∷ l) (sym (same_range f g (a + 1) n (λ r le. same r (λ e. let e : r ≡ a + 0 = e in omega (arith, le, e)))))
    ∙ ap (λ b. b ∷ map g (range_with_len (a + 1) n)) (sym is ∙ ap g here)
set_range f g a (suc n) (suc k) less is same =
    let on : a + suc k ≡ a + 1 + k = omega arith in
    ap (λ l. f a ∷ l) (set_range f g (a + 1) n k (omega (arith, less)) (ap g (sym on) ∙ is) (λ r off. same r (λ e. off (e ∙ on))))
    ∙ ap (λ b. b ∷ map g (range_with_len (a + 1) n)) (sym (same a (λ e. let e : a ≡ a + suc k = e in omega (arith, e))))

-- nothing of a range is listed
pub none_range : (f : ℕ → Bool) (a n : ℕ) → ((r : ℕ) → f r ≡ false) → replicate n false ≡ map f (range_with_len a n)
none_range f a zero none = refl
none_range f a (suc n) none = ap (λ b. b ∷ replicate n false) (sym (none a)) ∙ ap (λ l. f a ∷ l) (none_range f (a + 1) n none)

-- all of a range is
pub whole_range : (f : ℕ → Bool) (ks : List ℕ) → is_whole_list (map f ks) ≡ list_all f ks
whole_range f [] = refl
whole_range f (k ∷ ks) = ap (λ b. f k && b) (whole_range f ks)
