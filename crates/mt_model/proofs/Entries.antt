-- What a change of entries in the order of their keys leaves at each key, that it leaves them in order, and how it is undone.
use Rattle.std.proofs.Common.{◌≡◌, Bool, true, false, cond, List, [], ◌∷◌, Some, None, refl, sym, ap, subst, ◌∙◌}
use Rattle.std.proofs.lemmas.Map.{lookup-none}
use Rattle.std.proofs.lemmas.Map.Entries.{none_below_head}
use Rattle.std.proofs.lemmas.Map.Keys.{sorted_tail}
use Rattle.std.specs.BTreeMap.{is_at, insert_entry}
use Rattle.std.specs.Cmp.{IsTotalOrder, eq_by_cmp_equiv}
use Rattle.std.specs.List.{AllByRecursion}
use Rattle.std.specs.List.Sorted.{IsStrictlySortedBy}
use Rattle.std.specs.Map.{lookup, remove_entry, keys_of}
use Rattle.std.specs.Option.{unwrap_or}
use Rattle.std.specs.Ordering.{is_eq, match_ordering, ordering_reverse}
use Rattle.std.specs.declared.cmp.Ordering.{Ordering}
use Rattle.std.specs.declared.cmp.Ordering.TheVariants.{Less, Equal, Greater}

again : {A : Type 0} (b : Bool) (x y z : A) → cond b x z ≡ cond b x (cond b y z)
again true x y z = refl
again false x y z = refl

swap : {A : Type 0} (a b : Bool) (x y z : A) → (b ≡ true → a ≡ false) → cond a x (cond b y z) ≡ cond b y (cond a x z)
swap true true x y z h = let e = h refl in cc
swap true false x y z h = refl
swap false b x y z h = refl

-- what an insertion leaves at each key
module _ {K X : Type 0} {R : K → K → Ordering} (o : IsTotalOrder R) (k : K) (v : X) (q : K) where
  seen_from : (e : K) → is_at (R q) e ≡ is_at (R e) q
  seen_from e = (eq_by_cmp_equiv o).symm q e

  like : (e : K) → is_at (R k) e ≡ true → is_at (R q) e ≡ is_at (R k) q
  like e h = seen_from e ∙ sym ((eq_by_cmp_equiv o).congr k e q h)

  unlike : (e : K) → is_at (R k) e ≡ false → is_at (R k) q ≡ true → is_at (R q) e ≡ false
  unlike e h t = sym ((eq_by_cmp_equiv o).congr k q e t) ∙ h

  pub lookup-insert_entry : (es : List (K × X)) → lookup (is_at (R q)) (insert_entry R es k v) ≡ cond (is_at (R k) q) (Some v) (lookup (is_at (R q)) es)
  lookup-insert_entry [] = ap (λ b. cond b (Some v) None) (seen_from k)
  lookup-insert_entry (e ∷ es) =
      let L = lookup (is_at (R q)) es in
      elim (R k e.0) as (λ r. R k e.0 ≡ r → lookup (is_at (R q)) (match_ordering r ((k, v) ∷ e ∷ es) ((e.0, v) ∷ es) (e ∷ insert_entry R es k v)) ≡ cond (is_at (R k) q) (Some v) (cond (is_at (R q) e.0) (Some e.1) L)) [
        | Less ↦ λ h. ap (λ b. cond b (Some v) (cond (is_at (R q) e.0) (Some e.1) L)) (seen_from k)
        | Equal ↦ λ h.
            let l = like e.0 (ap is_eq h) in
            ap (λ b. cond b (Some v) L) l ∙ again (is_at (R k) q) (Some v) (Some e.1) L ∙ ap (λ b. cond (is_at (R k) q) (Some v) (cond b (Some e.1) L)) (sym l)
        | Greater ↦ λ h.
            ap (cond (is_at (R q) e.0) (Some e.1)) (lookup-insert_entry es)
            ∙ swap (is_at (R q) e.0) (is_at (R k) q) (Some e.1) (Some v) L (unlike e.0 (ap is_eq h))
      ] refl

-- what holds of the keys and of the new one holds of the keys after an insertion
module _ {K X : Type 0} (R : K → K → Ordering) (P : K → Type 0) (k : K) (v : X) where
  all_inserted : (es : List (K × X)) → AllByRecursion P (keys_of es) → P k → AllByRecursion P (keys_of (insert_entry R es k v))
  all_inserted [] all is = (is, tt)
  all_inserted (e ∷ es) all is = elim (R k e.0) as (λ r. AllByRecursion P (keys_of (match_ordering r ((k, v) ∷ e ∷ es) ((e.0, v) ∷ es) (e ∷ insert_entry R es k v)))) [
    | Less ↦ (is, all)
    | Equal ↦ all
    | Greater ↦ (all.0, all_inserted es all.1 is)
  ]

module _ {K X : Type 0} (P : K → Type 0) (test : K → Bool) where
  all_removed : (es : List (K × X)) → AllByRecursion P (keys_of es) → AllByRecursion P (keys_of (remove_entry test es))
  all_removed [] all = tt
  all_removed (e ∷ es) all = elim (test e.0) as (λ b. AllByRecursion P (keys_of (cond b es (e ∷ remove_entry test es)))) [
    | true ↦ all.1
    | false ↦ (all.0, all_removed es all.1)
  ]

module _ {K : Type 0} {R : K → K → Ordering} (o : IsTotalOrder R) (k : K) where
  pub all_above : (e : K) (ks : List K) → R k e ≡ Less → AllByRecursion (λ y. R e y ≡ Less) ks → AllByRecursion (λ y. R k y ≡ Less) ks
  all_above e [] below all = tt
  all_above e (x ∷ ks) below all = (o.trans k e x below all.0, all_above e ks below all.1)

-- an insertion keeps the order
pub sorted-insert_entry : {K X : Type 0} {R : K → K → Ordering} → IsTotalOrder R → (k : K) (v : X) (es : List (K × X)) → IsStrictlySortedBy R (keys_of es) → IsStrictlySortedBy R (keys_of (insert_entry R es k v))
unfolding IsStrictlySortedBy
sorted-insert_entry {R = R} o k v [] s = (tt, tt)
sorted-insert_entry {R = R} o k v (e ∷ es) s = elim (R k e.0) as (λ r. R k e.0 ≡ r → IsStrictlySortedBy R (keys_of (match_ordering r ((k, v) ∷ e ∷ es) ((e.0, v) ∷ es) (e ∷ insert_entry R es k v)))) [
  | Less ↦ λ h. ((h, all_above o k e.0 (keys_of es) h s.0), s)
  | Equal ↦ λ h. s
  | Greater ↦ λ h. (all_inserted R (λ y. R e.0 y ≡ Less) k v es s.0 (o.antisymm e.0 k ∙ ap ordering_reverse h), sorted-insert_entry o k v es s.1)
] refl

-- a removal keeps the order
pub sorted-remove_entry : {K X : Type 0} (R : K → K → Ordering) → (test : K → Bool) (es : List (K × X)) → IsStrictlySortedBy R (keys_of es) → IsStrictlySortedBy R (keys_of (remove_entry test es))
unfolding IsStrictlySortedBy
sorted-remove_entry R test [] s = tt
sorted-remove_entry R test (e ∷ es) s = elim (test e.0) as (λ b. IsStrictlySortedBy R (keys_of (cond b es (e ∷ remove_entry test es)))) [
  | true ↦ s.1
  | false ↦ (all_removed (λ y. R e.0 y ≡ Less) test es s.0, sorted-remove_entry R test es s.1)
]

-- an insertion is undone by what stood there before: by a removal, or by the value of before
here : {K : Type 0} (R : K → K → Ordering) (k : K) → R k k ≡ Equal → is_at (R k) k ≡ true
here R k itself = ap is_eq itself

module _ {K X : Type 0} (R : K → K → Ordering) (k : K) (itself : R k k ≡ Equal) where
  first_gone : (v : X) (es : List (K × X)) → remove_entry (is_at (R k)) ((k, v) ∷ es) ≡ es
  first_gone v es = ap (λ b. cond b es ((k, v) ∷ remove_entry (is_at (R k)) es)) (here R k itself)

  new_case : (v : X) (e : K × X) (es : List (K × X)) (o : Ordering) → R k e.0 ≡ o
      → cond (is_eq o) (Some e.1) (lookup (is_at (R k)) es) ≡ None
      → (lookup (is_at (R k)) es ≡ None → remove_entry (is_at (R k)) (insert_entry R es k v) ≡ es)
      → remove_entry (is_at (R k)) (match_ordering o ((k, v) ∷ e ∷ es) ((e.0, v) ∷ es) (e ∷ insert_entry R es k v)) ≡ e ∷ es
  new_case v e es Less is none more = first_gone v (e ∷ es)
  new_case v e es Equal is none more = cc
  new_case v e es Greater is none more =
      ap (λ o. cond (is_eq o) (insert_entry R es k v) (e ∷ remove_entry (is_at (R k)) (insert_entry R es k v))) is ∙ ap (λ l. e ∷ l) (more none)

  pub undo_new : (v : X) (es : List (K × X)) → lookup (is_at (R k)) es ≡ None → remove_entry (is_at (R k)) (insert_entry R es k v) ≡ es
  undo_new v [] none = first_gone v []
  undo_new v (e ∷ es) none = new_case v e es (R k e.0) refl none (undo_new v es)

  old_case : (a b : X) (e : K × X) (es : List (K × X)) (o : Ordering) → R k e.0 ≡ o → (R k e.0 ≡ Less → lookup (is_at (R k)) (e ∷ es) ≡ None)
      → cond (is_eq o) (Some e.1) (lookup (is_at (R k)) es) ≡ Some b
      → (lookup (is_at (R k)) es ≡ Some b → insert_entry R (insert_entry R es k a) k b ≡ es)
      → insert_entry R (match_ordering o ((k, a) ∷ e ∷ es) ((e.0, a) ∷ es) (e ∷ insert_entry R es k a)) k b ≡ e ∷ es
  old_case a b e es Less is below some more = let none : cond (is_eq (R k e.0)) (Some e.1) (lookup (is_at (R k)) es) ≡ None = below is in let same : cond (is_eq Less) (Some e.1) (lookup (is_at (R k)) es) ≡ None = subst (λ o. cond (is_eq o) (Some e.1) (lookup (is_at (R k)) es) ≡ None) is none in cc
  old_case a b e es Equal is below some more =
      ap (λ o. match_ordering o ((k, b) ∷ (e.0, a) ∷ es) ((e.0, b) ∷ es) ((e.0, a) ∷ insert_entry R es k b)) is ∙ ap (λ x. (e.0, x) ∷ es) (sym (ap (λ o. unwrap_or o b) some))
  old_case a b e es Greater is below some more =
      ap (λ o. match_ordering o ((k, b) ∷ e ∷ insert_entry R es k a) ((e.0, b) ∷ insert_entry R es k a) (e ∷ insert_entry R (insert_entry R es k a) k b)) is ∙ ap (λ l. e ∷ l) (more some)

  pub undo_old : IsTotalOrder R → (a b : X) (es : List (K × X)) → IsStrictlySortedBy R (keys_of es) → lookup (is_at (R k)) es ≡ Some b → insert_entry R (insert_entry R es k a) k b ≡ es
  undo_old total a b [] sorted some = cc
  undo_old total a b (e ∷ es) sorted some =
      old_case a b e es (R k e.0) refl (λ less. lookup-none (is_at (R k)) (e ∷ es) (none_below_head total k e es sorted less)) some
      (undo_old total a b es (sorted_tail R e.0 (keys_of es) sorted))
