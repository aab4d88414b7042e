-- A child that is counted after its row was put, as if it had been counted before.
use Rattle.std.proofs.Common.{◌≡◌, ℕ, ◌-◌, ◌<◌, ◌≤◌, ◌^◌, Bool, true, false, cond, List, [], ◌∷◌, length, take, Option, Some, None, zero, suc, refl, sym, ap, subst, ◌∙◌, arith}
use Rattle.std.specs.Prelude.{IfSome, IsTrue, is_some, not}
use Rattle.std.specs.BTreeMap.{insert_entry}
use Rattle.std.specs.Cmp.{IsTotalOrder, eq_by_cmp_equiv}
use Rattle.std.specs.Cmp.Lexicographic.{lists_total, nat_list_cmp_total}
use Rattle.std.specs.Map.{lookup}
use Rattle.std.specs.Ordering.{is_eq, match_ordering, ordering_then}
use Rattle.std.specs.declared.cmp.Ordering.{Ordering}
use Rattle.std.specs.declared.cmp.Ordering.TheVariants.{Less, Equal, Greater}
use Rattle.std.proofs.lemmas.Cmp.{tied_itself}
use Rattle.mt_path.specs.Keys.{Parts}
use Rattle.mt_model.proofs.Entries.{lookup-insert_entry}
use Rattle.mt_tree.specs.declared.kept.KeptRow.{KeptRow}
use Rattle.mt_tree.specs.AreaRows.{changed, is_key, made_room, parts_above, parts_cmp, raised}

parts_total : IsTotalOrder parts_cmp
parts_total = lists_total nat_list_cmp_total

-- the path above is another
before : (p : Parts) (k : ℕ) → k < length p → parts_cmp (take k p) p ≡ Less
before [] k within = absurd (omega (arith, within))
before (c ∷ p) zero within = refl
before (c ∷ p) (suc k) within = ap (λ r. ordering_then r (parts_cmp (take k p) p)) (tied_itself nat_list_cmp_total c) ∙ before p k (omega (arith, within))

pub above-other : (above p : Parts) → above ≡ parts_above p → 0 < length p → is_key above p ≡ false
above-other above p is below = ap (λ d. is_key d p) is ∙ ap is_eq (before p (length p - 1) (omega (arith, below)))

-- a row put at one key, and a change at another
module _ {X : Type 0} (f : X → X) (d p : Parts) (other : is_key d p ≡ false) (v : X) where
  apart : (x : Parts) → parts_cmp p x ≡ Equal → is_key d x ≡ false
  apart x same =
      (eq_by_cmp_equiv parts_total).symm d x ∙ sym ((eq_by_cmp_equiv parts_total).congr p x d (ap is_eq same)) ∙ (eq_by_cmp_equiv parts_total).symm p d ∙ other

  module _ (e : Parts × X) (es : List (Parts × X)) where
    abbrev rest : List (Parts × X)
    rest = changed (is_key d) f es

    abbrev put : List (Parts × X) → List (Parts × X)
    put rows = insert_entry parts_cmp rows p v

    into : (b : Bool) → put (cond b ((e.0, f e.1) ∷ es) (e ∷ rest)) ≡ match_ordering (parts_cmp p e.0) ((p, v) ∷ cond b ((e.0, f e.1) ∷ es) (e ∷ rest)) ((e.0, v) ∷ cond b es rest) (cond b ((e.0, f e.1) ∷ put es) (e ∷ put rest))
    into true = refl
    into false = refl

    behind : changed (is_key d) f (put es) ≡ put rest → (r : Ordering) → parts_cmp p e.0 ≡ r
        → changed (is_key d) f (match_ordering r ((p, v) ∷ e ∷ es) ((e.0, v) ∷ es) (e ∷ put es)) ≡ match_ordering r ((p, v) ∷ changed (is_key d) f (e ∷ es)) ((e.0, v) ∷ cond (is_key d e.0) es rest) (cond (is_key d e.0) ((e.0, f e.1) ∷ put es) (e ∷ put rest))
    behind more Less at = ap (λ b. cond b ((p, f v) ∷ e ∷ es) ((p, v) ∷ changed (is_key d) f (e ∷ es))) other
    behind more Equal at = ap (λ b. cond b ((e.0, f v) ∷ es) ((e.0, v) ∷ rest)) (apart e.0 at) ∙ ap (λ b. (e.0, v) ∷ cond b es rest) (sym (apart e.0 at))
    behind more Greater at = ap (λ l. cond (is_key d e.0) ((e.0, f e.1) ∷ put es) (e ∷ l)) more

  pub changed-insert : (es : List (Parts × X)) → changed (is_key d) f (insert_entry parts_cmp es p v) ≡ insert_entry parts_cmp (changed (is_key d) f es) p v
  changed-insert [] = ap (λ b. cond b ((p, f v) ∷ []) ((p, v) ∷ [])) other
  changed-insert (e ∷ es) = behind e es (changed-insert es) (parts_cmp p e.0) refl ∙ sym (into e es (is_key d e.0))

  pub lookup-insert : (es : List (Parts × X)) → lookup (is_key d) (insert_entry parts_cmp es p v) ≡ lookup (is_key d) es
  lookup-insert es = lookup-insert_entry parts_total p v d es ∙ ap (λ b. cond b (Some v) (lookup (is_key d) es)) ((eq_by_cmp_equiv parts_total).symm p d ∙ other)

module _ {B : Type 0} (above p : Parts) (is : above ≡ parts_above p) (below : 0 < length p) (old put : List (Parts × KeptRow B)) (at : Parts) (here : at ≡ p) (row one : KeptRow B) (same : row ≡ one) (put_is : put ≡ insert_entry parts_cmp old at row) where
  put_at : put ≡ insert_entry parts_cmp old p one
  put_at = put_is ∙ ap (λ q. insert_entry parts_cmp old q row) here ∙ ap (insert_entry parts_cmp old p) same

  few_case : (n : ℕ) → n < 2 ^ 63 → (o : Option (KeptRow B)) → IfSome o (λ row. row.children ≤ n) → IfSome o (λ row. row.children < 2 ^ 63)
  few_case n short None few = tt
  few_case n short (Some row) few = omega (arith, few, short)

  -- the row above is the one that stood there
  pub still-few : (n : ℕ) → n < 2 ^ 63 → IfSome (lookup (is_key above) old) (λ row. row.children ≤ n) → IfSome (lookup (is_key above) put) (λ row. row.children < 2 ^ 63)
  still-few n short few =
      subst (λ o. IfSome o (λ row. row.children < 2 ^ 63)) (sym (ap (lookup (is_key above)) put_at ∙ lookup-insert raised above p (above-other above p is below) one old))
      (few_case n short (lookup (is_key above) old) few)

  -- the row, and the child that is counted where the row is new
  pub put-counted : (new : List (Parts × KeptRow B)) (is_new : Bool) → is_new ≡ not (is_some (lookup (is_key p) old)) → (IsTrue is_new → new ≡ changed (is_key above) raised put) → (IsTrue (not is_new) → new ≡ put) → new ≡ insert_entry parts_cmp (made_room p old) p one
  put-counted new is_new new_is grew stayed = chosen (is_some (lookup (is_key p) old)) is_new new_is grew stayed
    where
      chosen : (t n : Bool) → n ≡ not t → (IsTrue n → new ≡ changed (is_key above) raised put) → (IsTrue (not n) → new ≡ put) → new ≡ insert_entry parts_cmp (cond t old (changed (is_key (parts_above p)) raised old)) p one
      chosen true true e grew stayed = cc
      chosen true false e grew stayed = stayed refl ∙ put_at
      chosen false true e grew stayed =
          grew refl ∙ ap (changed (is_key above) raised) put_at ∙ changed-insert raised above p (above-other above p is below) one old
          ∙ ap (λ d. insert_entry parts_cmp (changed (is_key d) raised old) p one) is
      chosen false false e grew stayed = cc
