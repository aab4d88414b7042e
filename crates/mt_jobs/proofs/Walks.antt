-- Walks over a list by an index.
use Rattle.std.proofs.Common.{◌≡◌, ℕ, ◌+◌, ◌<◌, ◌≤◌, Bool, true, false, ◌||◌, List, [], ◌∷◌, ◌++◌, length, get_or, drop, Option, Some, None, sym, ap, ◌∙◌, append_assoc, append-nil}
use Rattle.std.specs.List.{cons_option, filter_map, fold, list_any}
use Rattle.mt_sched.proofs.Phases.{drop_all, drop_step}

module _ {X : Type 0} where
  -- no element so far passes a test
  pub any_on : (t : X → Bool) (xs : List X) (i : ℕ) (x : X) (all : Bool) → i < length xs → x ≡ get_or xs i x → t x ≡ false → list_any t (drop i xs) ≡ all → list_any t (drop (i + 1) xs) ≡ all
  any_on t xs i x all less is fails so_far = sym (ap (list_any t) (drop_step xs i x less is) ∙ ap (λ b. b || list_any t (drop (i + 1) xs)) fails) ∙ so_far

  pub any_found : (t : X → Bool) (xs : List X) (i : ℕ) (x : X) (all : Bool) → i < length xs → x ≡ get_or xs i x → t x ≡ true → list_any t (drop i xs) ≡ all → true ≡ all
  any_found t xs i x all less is holds so_far = sym (ap (list_any t) (drop_step xs i x less is) ∙ ap (λ b. b || list_any t (drop (i + 1) xs)) holds) ∙ so_far

  pub any_done : (t : X → Bool) (xs : List X) (i : ℕ) (all : Bool) → length xs ≤ i → list_any t (drop i xs) ≡ all → false ≡ all
  any_done t xs i all past so_far = sym (ap (list_any t) (drop_all xs i past)) ∙ so_far

  -- one step of a fold
  pub fold_on : {Y : Type 0} (f : Y → X → Y) (xs : List X) (i : ℕ) (x : X) (y new all : Y) → i < length xs → x ≡ get_or xs i x → new ≡ f y x → fold f y (drop i xs) ≡ all → fold f new (drop (i + 1) xs) ≡ all
  fold_on f xs i x y new all less is step so_far = ap (λ z. fold f z (drop (i + 1) xs)) step ∙ sym (ap (fold f y) (drop_step xs i x less is)) ∙ so_far

  pub fold_done : {Y : Type 0} (f : Y → X → Y) (xs : List X) (i : ℕ) (y all : Y) → length xs ≤ i → fold f y (drop i xs) ≡ all → y ≡ all
  fold_done f xs i y all past so_far = sym (ap (fold f y) (drop_all xs i past)) ∙ so_far

  -- one step of a selection
  pub found_on : {Y : Type 0} (h : X → Option Y) (xs : List X) (i : ℕ) (x : X) (y : Y) (front all : List Y) → i < length xs → x ≡ get_or xs i x → h x ≡ Some y → front ++ filter_map h (drop i xs) ≡ all → (front ++ y ∷ []) ++ filter_map h (drop (i + 1) xs) ≡ all
  found_on h xs i x y front all less is found so_far =
      append_assoc front (y ∷ []) (filter_map h (drop (i + 1) xs))
      ∙ ap (λ l. front ++ l) (sym (ap (filter_map h) (drop_step xs i x less is) ∙ ap (λ o. cons_option o (filter_map h (drop (i + 1) xs))) found))
      ∙ so_far

  pub found_past : {Y : Type 0} (h : X → Option Y) (xs : List X) (i : ℕ) (x : X) (front all : List Y) → i < length xs → x ≡ get_or xs i x → h x ≡ None → front ++ filter_map h (drop i xs) ≡ all → front ++ filter_map h (drop (i + 1) xs) ≡ all
  found_past h xs i x front all less is none so_far =
      ap (λ l. front ++ l) (sym (ap (filter_map h) (drop_step xs i x less is) ∙ ap (λ o. cons_option o (filter_map h (drop (i + 1) xs))) none)) ∙ so_far

  pub found_done : {Y : Type 0} (h : X → Option Y) (xs : List X) (i : ℕ) (front all : List Y) → length xs ≤ i → front ++ filter_map h (drop i xs) ≡ all → front ≡ all
  found_done h xs i front all past so_far = sym (ap (λ l. front ++ filter_map h l) (drop_all xs i past) ∙ append-nil front) ∙ so_far
