-- Operations on entries that stand in front of others, or behind them.
use Rattle.std.proofs.Common.{◌≡◌, Bool, true, false, cond, List, [], ◌∷◌, ◌++◌, Some, None, refl, ap, ◌∙◌}
use Rattle.std.specs.BTreeMap.{insert_entry}
use Rattle.std.specs.List.{AllByRecursion, filter}
use Rattle.std.specs.Map.{lookup, remove_entry, keys_of}
use Rattle.std.specs.Ordering.{match_ordering}
use Rattle.std.specs.declared.cmp.Ordering.{Ordering}
use Rattle.std.specs.declared.cmp.Ordering.TheVariants.{Less, Equal, Greater}
use Rattle.mt_tree.specs.AreaRows.{changed}

pub all_append : {K X : Type 0} (P : K → Type 0) (xs ys : List (K × X)) → AllByRecursion P (keys_of xs) → AllByRecursion P (keys_of ys) → AllByRecursion P (keys_of (xs ++ ys))
all_append P [] ys front back = back
all_append P (x ∷ xs) ys front back = (front.0, all_append P xs ys front.1 back)

module _ {K X : Type 0} (test : K → Bool) where
  -- no key passes
  abbrev pub NoKey : List (K × X) → Type 0
  NoKey es = AllByRecursion (λ k. test k ≡ false) (keys_of es)

  pub lookup-none : (es : List (K × X)) → NoKey es → lookup test es ≡ None
  lookup-none [] none = refl
  lookup-none (e ∷ es) none = ap (λ b. cond b (Some e.1) (lookup test es)) none.0 ∙ lookup-none es none.1

  pub lookup-back : (xs ys : List (K × X)) → NoKey xs → lookup test (xs ++ ys) ≡ lookup test ys
  lookup-back [] ys none = refl
  lookup-back (x ∷ xs) ys none = ap (λ b. cond b (Some x.1) (lookup test (xs ++ ys))) none.0 ∙ lookup-back xs ys none.1

  pub lookup-front : (xs ys : List (K × X)) → NoKey ys → lookup test (xs ++ ys) ≡ lookup test xs
  lookup-front [] ys none = lookup-none ys none
  lookup-front (x ∷ xs) ys none = ap (cond (test x.0) (Some x.1)) (lookup-front xs ys none)

  remove-none : (es : List (K × X)) → NoKey es → remove_entry test es ≡ es
  remove-none [] none = refl
  remove-none (e ∷ es) none = ap (λ b. cond b es (e ∷ remove_entry test es)) none.0 ∙ ap (λ l. e ∷ l) (remove-none es none.1)

  pub remove-back : (xs ys : List (K × X)) → NoKey xs → remove_entry test (xs ++ ys) ≡ xs ++ remove_entry test ys
  remove-back [] ys none = refl
  remove-back (x ∷ xs) ys none = ap (λ b. cond b (xs ++ ys) (x ∷ remove_entry test (xs ++ ys))) none.0 ∙ ap (λ l. x ∷ l) (remove-back xs ys none.1)

  append_cond : (b : Bool) (xs zs ys : List (K × X)) → cond b (xs ++ ys) (zs ++ ys) ≡ cond b xs zs ++ ys
  append_cond true xs zs ys = refl
  append_cond false xs zs ys = refl

  pub remove-front : (xs ys : List (K × X)) → NoKey ys → remove_entry test (xs ++ ys) ≡ remove_entry test xs ++ ys
  remove-front [] ys none = remove-none ys none
  remove-front (x ∷ xs) ys none = ap (λ l. cond (test x.0) (xs ++ ys) (x ∷ l)) (remove-front xs ys none) ∙ append_cond (test x.0) xs (x ∷ remove_entry test xs) ys

  module _ (f : X → X) where
    changed-none : (es : List (K × X)) → NoKey es → changed test f es ≡ es
    changed-none [] none = refl
    changed-none (e ∷ es) none = ap (λ b. cond b ((e.0, f e.1) ∷ es) (e ∷ changed test f es)) none.0 ∙ ap (λ l. e ∷ l) (changed-none es none.1)

    pub changed-back : (xs ys : List (K × X)) → NoKey xs → changed test f (xs ++ ys) ≡ xs ++ changed test f ys
    changed-back [] ys none = refl
    changed-back (x ∷ xs) ys none = ap (λ b. cond b ((x.0, f x.1) ∷ xs ++ ys) (x ∷ changed test f (xs ++ ys))) none.0 ∙ ap (λ l. x ∷ l) (changed-back xs ys none.1)

    pub changed-front : (xs ys : List (K × X)) → NoKey ys → changed test f (xs ++ ys) ≡ changed test f xs ++ ys
    changed-front [] ys none = changed-none ys none
    changed-front (x ∷ xs) ys none = ap (λ l. cond (test x.0) ((x.0, f x.1) ∷ xs ++ ys) (x ∷ l)) (changed-front xs ys none) ∙ append_cond (test x.0) ((x.0, f x.1) ∷ xs) (x ∷ changed test f xs) ys

  pub filter-none : (es : List (K × X)) → NoKey es → filter (λ e. test e.0) es ≡ []
  filter-none [] none = refl
  filter-none (e ∷ es) none = ap (λ b. cond b (e ∷ filter (λ x. test x.0) es) (filter (λ x. test x.0) es)) none.0 ∙ filter-none es none.1

module _ {K X : Type 0} (R : K → K → Ordering) (k : K) (v : X) where
  pub insert-back : (xs ys : List (K × X)) → AllByRecursion (λ x. R k x ≡ Greater) (keys_of xs) → insert_entry R (xs ++ ys) k v ≡ xs ++ insert_entry R ys k v
  insert-back [] ys below = refl
  insert-back (x ∷ xs) ys below =
      ap (λ r. match_ordering r ((k, v) ∷ x ∷ xs ++ ys) ((x.0, v) ∷ xs ++ ys) (x ∷ insert_entry R (xs ++ ys) k v)) below.0
      ∙ ap (λ l. x ∷ l) (insert-back xs ys below.1)

  insert-first : (ys : List (K × X)) → AllByRecursion (λ y. R k y ≡ Less) (keys_of ys) → insert_entry R ys k v ≡ (k, v) ∷ ys
  insert-first [] above = refl
  insert-first (y ∷ ys) above = ap (λ r. match_ordering r ((k, v) ∷ y ∷ ys) ((y.0, v) ∷ ys) (y ∷ insert_entry R ys k v)) above.0

  append_match : (r : Ordering) (a b c ys : List (K × X)) → match_ordering r (a ++ ys) (b ++ ys) (c ++ ys) ≡ match_ordering r a b c ++ ys
  append_match Less a b c ys = refl
  append_match Equal a b c ys = refl
  append_match Greater a b c ys = refl

  pub insert-front : (xs ys : List (K × X)) → AllByRecursion (λ y. R k y ≡ Less) (keys_of ys) → insert_entry R (xs ++ ys) k v ≡ insert_entry R xs k v ++ ys
  insert-front [] ys above = insert-first ys above
  insert-front (x ∷ xs) ys above =
      ap (λ l. match_ordering (R k x.0) ((k, v) ∷ x ∷ xs ++ ys) ((x.0, v) ∷ xs ++ ys) (x ∷ l)) (insert-front xs ys above)
      ∙ append_match (R k x.0) ((k, v) ∷ x ∷ xs) ((x.0, v) ∷ xs) (x ∷ insert_entry R xs k v) ys

pub filter-append : {A : Type 0} (p : A → Bool) (xs ys : List A) → filter p (xs ++ ys) ≡ filter p xs ++ filter p ys
filter-append p [] ys = refl
filter-append p (x ∷ xs) ys = ap (λ l. cond (p x) (x ∷ l) l) (filter-append p xs ys) ∙ case (p x) (filter p xs)
  where
    case : (b : Bool) (l : List _) → cond b (x ∷ l ++ filter p ys) (l ++ filter p ys) ≡ cond b (x ∷ l) l ++ filter p ys
    case true l = refl
    case false l = refl
