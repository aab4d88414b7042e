-- What functions of lists make of a list whose elements go to others.
use Rattle.std.proofs.Common.{◌≡◌, ℕ, ◌+◌, Bool, true, false, cond, ◌&&◌, ◌||◌, List, [], ◌∷◌, ◌++◌, length, map, take, drop, Option, Some, None, refl, sym, ap, ◌∙◌, zero, suc}
use Rattle.std.specs.List.{enumerate_from, filter, filter_map, cons_option, find, flat_map, fold, list_all, list_any, slice_get, sum_by, zip}
use Rattle.std.specs.Option.{option_map}

pub cond_ap : {X Y : Type 0} (f : X → Y) (b : Bool) (x y : X) → f (cond b x y) ≡ cond b (f x) (f y)
cond_ap f true x y = refl
cond_ap f false x y = refl

-- functions that agree everywhere are one
pub same_function : {X Y : Type 0} (f g : X → Y) → ((x : X) → f x ≡ g x) → f ≡ g
same_function f g h = λ i x. h x i

pub map-map : {X Y Z : Type 0} (g : Y → Z) (f : X → Y) (xs : List X) → map g (map f xs) ≡ map (λ x. g (f x)) xs
map-map g f [] = refl
map-map g f (x ∷ xs) = ap (λ l. g (f x) ∷ l) (map-map g f xs)

module _ {X Y : Type 0} (f : X → Y) where
  pub map-append : (xs ys : List X) → map f (xs ++ ys) ≡ map f xs ++ map f ys
  map-append [] ys = refl
  map-append (x ∷ xs) ys = ap (λ l. f x ∷ l) (map-append xs ys)

  pub length-map : (xs : List X) → length (map f xs) ≡ length xs
  length-map [] = refl
  length-map (x ∷ xs) = ap suc (length-map xs)

  pub filter-map : (t : Y → Bool) (xs : List X) → filter t (map f xs) ≡ map f (filter (λ x. t (f x)) xs)
  filter-map t [] = refl
  filter-map t (x ∷ xs) =
      ap (λ l. cond (t (f x)) (f x ∷ l) l) (filter-map t xs)
      ∙ sym (cond_ap (map f) (t (f x)) (x ∷ filter (λ x. t (f x)) xs) (filter (λ x. t (f x)) xs))

  pub list_any-map : (t : Y → Bool) (xs : List X) → list_any t (map f xs) ≡ list_any (λ x. t (f x)) xs
  list_any-map t [] = refl
  list_any-map t (x ∷ xs) = ap (λ b. t (f x) || b) (list_any-map t xs)

  pub list_all-map : (t : Y → Bool) (xs : List X) → list_all t (map f xs) ≡ list_all (λ x. t (f x)) xs
  list_all-map t [] = refl
  list_all-map t (x ∷ xs) = ap (λ b. t (f x) && b) (list_all-map t xs)

  pub find-map : (t : Y → Bool) (xs : List X) → find t (map f xs) ≡ option_map f (find (λ x. t (f x)) xs)
  find-map t [] = refl
  find-map t (x ∷ xs) =
      ap (cond (t (f x)) (Some (f x))) (find-map t xs)
      ∙ sym (cond_ap (option_map f) (t (f x)) (Some x) (find (λ x. t (f x)) xs))

  pub enumerate-map : (n : ℕ) (xs : List X) → enumerate_from n (map f xs) ≡ map (λ p. (p.0, f p.1)) (enumerate_from n xs)
  enumerate-map n [] = refl
  enumerate-map n (x ∷ xs) = ap (λ l. (n, f x) ∷ l) (enumerate-map (n + 1) xs)

  pub take-map : (n : ℕ) (xs : List X) → take n (map f xs) ≡ map f (take n xs)
  take-map zero xs = refl
  take-map (suc n) [] = refl
  take-map (suc n) (x ∷ xs) = ap (λ l. f x ∷ l) (take-map n xs)

  pub drop-map : (n : ℕ) (xs : List X) → drop n (map f xs) ≡ map f (drop n xs)
  drop-map zero xs = refl
  drop-map (suc n) [] = refl
  drop-map (suc n) (x ∷ xs) = drop-map n xs

  pub slice_get-map : (xs : List X) (n : ℕ) → slice_get (map f xs) n ≡ option_map f (slice_get xs n)
  slice_get-map [] n = refl
  slice_get-map (x ∷ xs) zero = refl
  slice_get-map (x ∷ xs) (suc n) = slice_get-map xs n

  pub flat_map-map : {Z : Type 0} (h : Y → List Z) (xs : List X) → flat_map h (map f xs) ≡ flat_map (λ x. h (f x)) xs
  flat_map-map h [] = refl
  flat_map-map h (x ∷ xs) = ap (λ l. h (f x) ++ l) (flat_map-map h xs)

  pub map-flat_map : {W : Type 0} (h : W → List X) (ws : List W) → map f (flat_map h ws) ≡ flat_map (λ w. map f (h w)) ws
  map-flat_map h [] = refl
  map-flat_map h (w ∷ ws) = map-append (h w) (flat_map h ws) ∙ ap (λ l. map f (h w) ++ l) (map-flat_map h ws)

  cons-map : (o : Option X) (xs : List X) → cons_option (option_map f o) (map f xs) ≡ map f (cons_option o xs)
  cons-map None xs = refl
  cons-map (Some x) xs = refl

  pub map-filter_map : {W : Type 0} (h : W → Option X) (ws : List W) → filter_map (λ w. option_map f (h w)) ws ≡ map f (filter_map h ws)
  map-filter_map h [] = refl
  map-filter_map h (w ∷ ws) = ap (cons_option (option_map f (h w))) (map-filter_map h ws) ∙ cons-map (h w) (filter_map h ws)

  pub fold-map : {Z : Type 0} (g : Z → Y → Z) (z : Z) (xs : List X) → fold g z (map f xs) ≡ fold (λ z x. g z (f x)) z xs
  fold-map g z [] = refl
  fold-map g z (x ∷ xs) = fold-map g (g z (f x)) xs

  pub sum_by-map : (n : Y → ℕ) (xs : List X) → sum_by n (map f xs) ≡ sum_by (λ x. n (f x)) xs
  sum_by-map n xs = fold-map (λ a y. a + n y) 0 xs

  pub zip-map : {K : Type 0} (ks : List K) (xs : List X) → zip ks (map f xs) ≡ map (λ p. (p.0, f p.1)) (zip ks xs)
  zip-map [] xs = refl
  zip-map (k ∷ ks) [] = refl
  zip-map (k ∷ ks) (x ∷ xs) = ap (λ l. (k, f x) ∷ l) (zip-map ks xs)

-- a fold of steps that commute with f
pub fold-with : {X Y W : Type 0} (f : X → Y) (g : X → W → X) (h : Y → W → Y) → ((x : X) (w : W) → h (f x) w ≡ f (g x w)) → (x : X) (ws : List W) → fold h (f x) ws ≡ f (fold g x ws)
fold-with f g h each x [] = refl
fold-with f g h each x (w ∷ ws) = ap (λ y. fold h y ws) (each x w) ∙ fold-with f g h each (g x w) ws
