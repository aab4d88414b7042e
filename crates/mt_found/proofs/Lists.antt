-- Lists that rise: what filters by one test or another leave of them.
use Rattle.std.proofs.Common.{◌≡◌, Bool, true, false, ◌||◌, cond, List, [], ◌∷◌, ◌++◌, refl, sym, ap, ◌∙◌}
use Rattle.std.specs.Prelude.{⊤}
use Rattle.std.specs.List.{AllByRecursion, filter}
use Rattle.std.specs.List.Sorted.{IsStrictlySortedBy}
use Rattle.std.specs.Map.{keys_of}
use Rattle.std.specs.declared.cmp.Ordering.{Ordering}
use Rattle.std.specs.declared.cmp.Ordering.TheVariants.{Less}
use Rattle.std.proofs.lemmas.Bool.{false_from_ne_true}

module _ {X : Type 0} where
  pub each : (P Q : X → Type 0) → ((x : X) → P x → Q x) → (xs : List X) → AllByRecursion P xs → AllByRecursion Q xs
  each P Q more [] all = tt
  each P Q more (x ∷ xs) all = (more x all.0, each P Q more xs all.1)

  pub both : (P Q : X → Type 0) (xs : List X) → AllByRecursion P xs → AllByRecursion Q xs → AllByRecursion (λ x. P x × Q x) xs
  both P Q [] all also = tt
  both P Q (x ∷ xs) all also = ((all.0, also.0), both P Q xs all.1 also.1)

  pub always : (P : X → Type 0) → ((x : X) → P x) → (xs : List X) → AllByRecursion P xs
  always P holds [] = tt
  always P holds (x ∷ xs) = (holds x, always P holds xs)

  pub filter_alike : (f g : X → Bool) (xs : List X) → AllByRecursion (λ x. f x ≡ g x) xs → filter f xs ≡ filter g xs
  filter_alike f g [] all = refl
  filter_alike f g (x ∷ xs) all = ap (λ b. cond b (x ∷ filter f xs) (filter f xs)) all.0 ∙ ap (λ l. cond (g x) (x ∷ l) l) (filter_alike f g xs all.1)

  pub filter_none : (f : X → Bool) (xs : List X) → AllByRecursion (λ x. f x ≡ false) xs → filter f xs ≡ []
  filter_none f [] all = refl
  filter_none f (x ∷ xs) all = ap (λ b. cond b (x ∷ filter f xs) (filter f xs)) all.0 ∙ filter_none f xs all.1

  pub filter_all : (f : X → Bool) (xs : List X) → AllByRecursion (λ x. f x ≡ true) xs → filter f xs ≡ xs
  filter_all f [] all = refl
  filter_all f (x ∷ xs) all = ap (λ b. cond b (x ∷ filter f xs) (filter f xs)) all.0 ∙ ap (λ l. x ∷ l) (filter_all f xs all.1)

  kept : (P : X → Type 0) (x : X) (ys : List X) (b : Bool) → P x → AllByRecursion P ys → AllByRecursion P (cond b (x ∷ ys) ys)
  kept P x ys true p all = (p, all)
  kept P x ys false p all = all

  -- what holds of all holds of those that are left
  pub each_kept : (P : X → Type 0) (f : X → Bool) (xs : List X) → AllByRecursion P xs → AllByRecursion P (filter f xs)
  each_kept P f [] all = tt
  each_kept P f (x ∷ xs) all = kept P x (filter f xs) (f x) all.0 (each_kept P f xs all.1)

  passed : (f : X → Bool) (x : X) (ys : List X) (b : Bool) → f x ≡ b → AllByRecursion (λ y. f y ≡ true) ys → AllByRecursion (λ y. f y ≡ true) (cond b (x ∷ ys) ys)
  passed f x ys true is all = (is, all)
  passed f x ys false is all = all

  pub each_passes : (f : X → Bool) (xs : List X) → AllByRecursion (λ x. f x ≡ true) (filter f xs)
  each_passes f [] = tt
  each_passes f (x ∷ xs) = passed f x (filter f xs) (f x) refl (each_passes f xs)

  -- ---- lists that rise

  -- each element is before those behind it
  abbrev pub Rising : (X → X → Type 0) → List X → Type 0
  Rising R [] = ⊤
  Rising R (x ∷ xs) = AllByRecursion (R x) xs × Rising R xs

  rising_kept_case : (R : X → X → Type 0) (x : X) (ys : List X) (b : Bool) → AllByRecursion (R x) ys → Rising R ys → Rising R (cond b (x ∷ ys) ys)
  rising_kept_case R x ys true all rising = (all, rising)
  rising_kept_case R x ys false all rising = rising

  pub rising_kept : (R : X → X → Type 0) (f : X → Bool) (xs : List X) → Rising R xs → Rising R (filter f xs)
  rising_kept R f [] rising = tt
  rising_kept R f (x ∷ xs) rising = rising_kept_case R x (filter f xs) (f x) (each_kept (R x) f xs rising.0) (rising_kept R f xs rising.1)

  module _ (R : X → X → Type 0) (never : (x y : X) → R x y → R y x → ⊥) (a b : X → Bool) (before : (x y : X) → a x ≡ true → b y ≡ true → R x y) where
    none_before : (x : X) (xs : List X) → b x ≡ true → AllByRecursion (R x) xs → filter a xs ≡ []
    none_before x xs is all = filter_none a xs (each (R x) (λ y. a y ≡ false) (λ y less. false_from_ne_true (a y) (λ t. never x y less (before y x t is))) xs all)

    one : (x : X) (xs : List X) (p q : Bool) → a x ≡ p → b x ≡ q → AllByRecursion (R x) xs → filter (λ y. a y || b y) xs ≡ filter a xs ++ filter b xs
        → cond (p || q) (x ∷ filter (λ y. a y || b y) xs) (filter (λ y. a y || b y) xs) ≡ cond p (x ∷ filter a xs) (filter a xs) ++ cond q (x ∷ filter b xs) (filter b xs)
    one x xs true true ea eb all so_far = absurd (never x x (before x x ea eb) (before x x ea eb))
    one x xs true false ea eb all so_far = ap (λ l. x ∷ l) so_far
    one x xs false true ea eb all so_far =
        let none = none_before x xs eb all in
        ap (λ l. x ∷ l) (so_far ∙ ap (λ l. l ++ filter b xs) none) ∙ sym (ap (λ l. l ++ x ∷ filter b xs) none)
    one x xs false false ea eb all so_far = so_far

    -- all that pass one test come before all that pass another
    pub filter_or : (xs : List X) → Rising R xs → filter (λ y. a y || b y) xs ≡ filter a xs ++ filter b xs
    filter_or [] rising = refl
    filter_or (x ∷ xs) rising = one x xs (a x) (b x) refl refl rising.0 (filter_or xs rising.1)

-- ---- keys

module _ {K V : Type 0} where
  pub each_key : (P : K → Type 0) (es : List (K × V)) → AllByRecursion P (keys_of es) → AllByRecursion (λ e. P e.0) es
  each_key P [] all = tt
  each_key P (e ∷ es) all = (all.0, each_key P es all.1)

  -- rows whose keys are sorted rise
  pub rising_keys : (c : K → K → Ordering) (es : List (K × V)) → IsStrictlySortedBy c (keys_of es) → Rising (λ e f. c e.0 f.0 ≡ Less) es
  unfolding IsStrictlySortedBy
  rising_keys c [] sorted = tt
  rising_keys c (e ∷ es) sorted = (each_key (λ k. c e.0 k ≡ Less) es sorted.0, rising_keys c es sorted.1)
