-- An entry that was written is taken back by what stood at its key.
use Rattle.std.proofs.Common.{◌≡◌, true, cond, List, [], ◌∷◌, Some, None, refl, sym, ap, subst, ◌∙◌}
use Rattle.std.specs.BTreeMap.{insert_entry, is_at}
use Rattle.std.specs.Map.{lookup, remove_entry}
use Rattle.std.specs.Option.{unwrap_or}
use Rattle.std.specs.List.Sorted.{IsStrictlySortedBy}
use Rattle.std.specs.Map.{keys_of}
use Rattle.std.specs.Cmp.{IsTotalOrder}
use Rattle.std.proofs.lemmas.Map.Entries.{none_below_head}
use Rattle.std.proofs.lemmas.Map.Keys.{sorted_tail}
use Rattle.std.proofs.lemmas.Map.{lookup-none}
use Rattle.std.specs.Ordering.{match_ordering, is_eq}
use Rattle.std.specs.declared.cmp.Ordering.{Ordering}
use Rattle.std.specs.declared.cmp.Ordering.TheVariants.{Less, Equal, Greater}

here : {K : Type 0} (R : K → K → Ordering) (k : K) → R k k ≡ Equal → is_at (R k) k ≡ true
here R k itself = ap is_eq itself

module _ {K X : Type 0} (R : K → K → Ordering) (k : K) (itself : R k k ≡ Equal) where
  first_gone : (v : X) (es : List (K × X)) → remove_entry (is_at (R k)) ((k, v) ∷ es) ≡ es
  first_gone v es = ap (λ b. cond b es ((k, v) ∷ remove_entry (is_at (R k)) es)) (here R k itself)

  new_case : (v : X) (e : K × X) (es : List (K × X)) (o : Ordering) → R k e.0 ≡ o
      → cond (is_eq o) (Some e.1) (lookup (is_at (R k)) es) ≡ None
      → (lookup (is_at (R k)) es ≡ None → remove_entry (is_at (R k)) (insert_entry R es k v) ≡ es)
      → remove_entry (is_at (R k)) (match_ordering o ((k, v) ∷ e ∷ es) ((e.0, v) ∷ es) (e ∷ insert_entry R es k v)) ≡ e ∷ es
  new_case v e es Less is none more = first_gone v (e ∷ es)
  new_case v e es Equal is none more = cc
  new_case v e es Greater is none more =
      ap (λ o. cond (is_eq o) (insert_entry R es k v) (e ∷ remove_entry (is_at (R k)) (insert_entry R es k v))) is ∙ ap (λ l. e ∷ l) (more none)

  pub undo_new : (v : X) (es : List (K × X)) → lookup (is_at (R k)) es ≡ None → remove_entry (is_at (R k)) (insert_entry R es k v) ≡ es
  undo_new v [] none = first_gone v []
  undo_new v (e ∷ es) none = new_case v e es (R k e.0) refl none (undo_new v es)

  old_case : (a b : X) (e : K × X) (es : List (K × X)) (o : Ordering) → R k e.0 ≡ o → (R k e.0 ≡ Less → lookup (is_at (R k)) (e ∷ es) ≡ None)
      → cond (is_eq o) (Some e.1) (lookup (is_at (R k)) es) ≡ Some b
      → (lookup (is_at (R k)) es ≡ Some b → insert_entry R (insert_entry R es k a) k b ≡ es)
      → insert_entry R (match_ordering o ((k, a) ∷ e ∷ es) ((e.0, a) ∷ es) (e ∷ insert_entry R es k a)) k b ≡ e ∷ es
  old_case a b e es Less is below some more = let none : cond (is_eq (R k e.0)) (Some e.1) (lookup (is_at (R k)) es) ≡ None = below is in let same : cond (is_eq Less) (Some e.1) (lookup (is_at (R k)) es) ≡ None = subst (λ o. cond (is_eq o) (Some e.1) (lookup (is_at (R k)) es) ≡ None) is none in cc
  old_case a b e es Equal is below some more =
      ap (λ o. match_ordering o ((k, b) ∷ (e.0, a) ∷ es) ((e.0, b) ∷ es) ((e.0, a) ∷ insert_entry R es k b)) is ∙ ap (λ x. (e.0, x) ∷ es) (sym (ap (λ o. unwrap_or o b) some))
  old_case a b e es Greater is below some more =
      ap (λ o. match_ordering o ((k, b) ∷ e ∷ insert_entry R es k a) ((e.0, b) ∷ insert_entry R es k a) (e ∷ insert_entry R (insert_entry R es k a) k b)) is ∙ ap (λ l. e ∷ l) (more some)

  pub undo_old : IsTotalOrder R → (a b : X) (es : List (K × X)) → IsStrictlySortedBy R (keys_of es) → lookup (is_at (R k)) es ≡ Some b → insert_entry R (insert_entry R es k a) k b ≡ es
  undo_old total a b [] sorted some = cc
  undo_old total a b (e ∷ es) sorted some =
      old_case a b e es (R k e.0) refl (λ less. lookup-none (is_at (R k)) (e ∷ es) (none_below_head total k e es sorted less)) some
      (undo_old total a b es (sorted_tail R e.0 (keys_of es) sorted))
