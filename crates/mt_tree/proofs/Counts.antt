-- How many keys pass a test, after an insertion and a removal.
use Rattle.std.proofs.Common.{◌≡◌, ℕ, ◌+◌, Bool, true, false, cond, List, [], ◌∷◌, length, Some, None, refl, sym, ap, ◌∙◌, arith}
use Rattle.std.specs.Prelude.{is_some}
use Rattle.std.specs.BTreeMap.{is_at, insert_entry}
use Rattle.std.specs.Cmp.{IsTotalOrder}
use Rattle.std.specs.List.{filter}
use Rattle.std.specs.List.Sorted.{IsStrictlySortedBy}
use Rattle.std.specs.Map.{lookup, remove_entry, keys_of}
use Rattle.std.specs.Ordering.{match_ordering, is_eq}
use Rattle.std.specs.declared.cmp.Ordering.{Ordering}
use Rattle.std.specs.declared.cmp.Ordering.TheVariants.{Less, Equal, Greater}
use Rattle.std.proofs.lemmas.Map.{lookup-none}
use Rattle.std.proofs.lemmas.Map.Entries.{none_below_head}
use Rattle.std.proofs.lemmas.Map.Keys.{sorted_tail}

abbrev pub one : Bool → ℕ
one b = cond b 1 0

module _ {K X : Type 0} (R : K → K → Ordering) (t : K → Bool) where
  -- how many keys pass
  abbrev pub passing : List (K × X) → ℕ
  passing es = length (filter (λ e. t e.0) es)

  passing_cons : (e : K × X) (es : List (K × X)) → passing (e ∷ es) ≡ one (t e.0) + passing es
  passing_cons e es = elim (t e.0) as (λ b. length (cond b (e ∷ filter (λ x. t x.0) es) (filter (λ x. t x.0) es)) ≡ one b + passing es) [ true ↦ omega arith | false ↦ omega arith ]

  module _ (k : K) where
    -- one more, where the key is new and passes
    pub passing-insert : (o : IsTotalOrder R) (v : X) (es : List (K × X)) → IsStrictlySortedBy R (keys_of es) → passing (insert_entry R es k v) ≡ passing es + cond (is_some (lookup (is_at (R k)) es)) 0 (one (t k))
    passing-insert o v [] s = let a = passing_cons (k, v) [] in omega arith
    passing-insert o v (e ∷ es) s = elim (R k e.0) as (λ r. R k e.0 ≡ r → passing (match_ordering r ((k, v) ∷ e ∷ es) ((e.0, v) ∷ es) (e ∷ insert_entry R es k v)) ≡ passing (e ∷ es) + cond (is_some (cond (is_eq r) (Some e.1) (lookup (is_at (R k)) es))) 0 (one (t k))) [
      | Less ↦ λ h.
          let n : lookup (is_at (R k)) es ≡ None = lookup-none (is_at (R k)) es (none_below_head o k e es s h).1 in
          let a = passing_cons (k, v) (e ∷ es) in
          let b : passing ((k, v) ∷ e ∷ es) ≡ passing (e ∷ es) + one (t k) = omega arith in
          b ∙ ap (λ l. passing (e ∷ es) + cond (is_some l) 0 (one (t k))) (sym n)
      | Equal ↦ λ h. let a = passing_cons (e.0, v) es in let b = passing_cons e es in omega arith
      | Greater ↦ λ h. let a = passing_cons e (insert_entry R es k v) in let b = passing_cons e es in let c = passing-insert o v es (sorted_tail R e.0 (keys_of es) s) in omega arith
    ] refl

    -- one less, where the key is there and passes
    pub passing-remove : (exact : (x : K) → is_at (R k) x ≡ true → k ≡ x) (es : List (K × X)) → passing (remove_entry (is_at (R k)) es) + cond (is_some (lookup (is_at (R k)) es)) (one (t k)) 0 ≡ passing es
    passing-remove exact [] = refl
    passing-remove exact (e ∷ es) = elim (is_at (R k) e.0) as (λ b. is_at (R k) e.0 ≡ b → passing (cond b es (e ∷ remove_entry (is_at (R k)) es)) + cond (is_some (cond b (Some e.1) (lookup (is_at (R k)) es))) (one (t k)) 0 ≡ passing (e ∷ es)) [
      | true ↦ λ h. let a = passing_cons e es in let b = ap (λ x. one (t x)) (exact e.0 h) in omega arith
      | false ↦ λ h. let a = passing_cons e (remove_entry (is_at (R k)) es) in let b = passing_cons e es in let c = passing-remove exact es in omega arith
    ] refl
