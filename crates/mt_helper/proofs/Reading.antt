-- Words that are read one by one.
use Rattle.std.proofs.Common.{◌≡◌, ◌≤◌, ◌<◌, ◌+◌, ◌-◌, ℕ, List, [], ◌∷◌, ◌++◌, Option, Some, None, refl, ap, arith, drop, get_or, length, map, slice_index_or, sym, take, ◌∙◌, append_assoc, append-nil}
use Rattle.std.specs.Prelude.{option_map, option_and_then}
use Rattle.std.proofs.lemmas.List.{at_drop_all, at_drop_more, take_all}
use Rattle.mt_helper.specs.Words.{options_from, with_option}
use Rattle.mt_helper.specs.declared.options.SplitOptions.{SplitOptions}

-- ---- all of a list, if each is one

-- these, and then the others
abbrev pub behind : {B : Type 0} → List B → Option (List B) → Option (List B)
behind done rest = option_map (λ others. done ++ others) rest

abbrev pub first_and : {B : Type 0} → Option B → Option (List B) → Option (List B)
first_and x rest = option_and_then (λ a. option_map (λ others. a ∷ others) rest) x

module _ {X B : Type 0} (all : List X → Option (List B)) (one : X → Option B) (step : (x : X) (l : List X) → all (x ∷ l) ≡ first_and (one x) (all l)) (xs : List X) where
  next_one : (i : ℕ) (x : X) → i < length xs → x ≡ get_or xs i x → all (drop i xs) ≡ first_and (one x) (all (drop (i + 1) xs))
  next_one i x within is = at_drop_more all xs i x within ∙ step (get_or xs i x) (drop (i + 1) xs) ∙ ap (λ (y : X). first_and (one y) (all (drop (i + 1) xs))) (sym is)

  regrouped : (done : List B) (b : B) (rest : Option (List B)) → behind done (first_and (Some b) rest) ≡ behind (done ++ b ∷ []) rest
  regrouped done b None = refl
  regrouped done b (Some others) = ap (λ (l : List B). Some l) (sym (append_assoc done (b ∷ []) others))

  pub one_more : (i : ℕ) (x : X) (b : B) (done : List B) → i < length xs → x ≡ get_or xs i x → one x ≡ Some b → behind (done ++ b ∷ []) (all (drop (i + 1) xs)) ≡ behind done (all (drop i xs))
  one_more i x b done within is found =
      sym (ap (behind done) (next_one i x within is ∙ ap (λ (o : Option B). first_and o (all (drop (i + 1) xs))) found) ∙ regrouped done b (all (drop (i + 1) xs)))

  pub one_fails : (i : ℕ) (x : X) (done : List B) → i < length xs → x ≡ get_or xs i x → one x ≡ None → behind done (all (drop i xs)) ≡ None
  one_fails i x done within is none = ap (behind done) (next_one i x within is ∙ ap (λ (o : Option B). first_and o (all (drop (i + 1) xs))) none)

  pub none_left : (i : ℕ) (done : List B) → all [] ≡ Some [] → length xs ≤ i → behind done (all (drop i xs)) ≡ Some done
  none_left i done empty past = ap (behind done) (at_drop_all all xs i past ∙ empty) ∙ ap (λ (l : List B). Some l) (append-nil done)

-- ---- options

-- words begin with these two
two_ahead : {X : Type 0} (f : X → List ℕ) (words : List X) (name value : X) (n : ℕ) → 2 ≤ length words → n ≡ length words → name ≡ slice_index_or words 0 name → value ≡ slice_index_or words 1 value
    → f name ∷ f value ∷ map f (take (n - 2) (drop 2 words)) ≡ map f words
two_ahead f [] name value n some all first second = absurd (omega (arith, some))
two_ahead f (a ∷ []) name value n some all first second = absurd (omega (arith, some))
two_ahead f (a ∷ b ∷ more) name value n some all first second =
    ap (λ x. f x ∷ f value ∷ map f (take (n - 2) more)) first ∙ ap (λ x. f a ∷ f x ∷ map f (take (n - 2) more)) second
    ∙ ap (λ l. f a ∷ f b ∷ map f l) (take_all (n - 2) more (omega (arith, all)))

-- what stands behind two words is read with the option that they are
pub options_ahead : {X : Type 0} (f : X → List ℕ) (o : SplitOptions) (words : List X) (name value : X) (n : ℕ) → 2 ≤ length words → n ≡ length words
    → name ≡ slice_index_or words 0 name → value ≡ slice_index_or words 1 value
    → options_from o (map f words) ≡ option_and_then (λ more. options_from more (map f (take (n - 2) (drop 2 words)))) (with_option o (f name) (f value))
options_ahead f o words name value n some all first second = ap (options_from o) (sym (two_ahead f words name value n some all first second))

-- an option without its value
pub one_ahead : {X : Type 0} (f : X → List ℕ) (o : SplitOptions) (words : List X) → 1 ≤ length words → length words < 2 → options_from o (map f words) ≡ None
one_ahead f o [] some few = absurd (omega (arith, some))
one_ahead f o (a ∷ []) some few = refl
one_ahead f o (a ∷ b ∷ words) some few = absurd (omega (arith, few))
