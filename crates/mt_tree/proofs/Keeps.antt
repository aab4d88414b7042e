-- The kept numbers stay those of the children.
use Rattle.std.proofs.Common.{◌≡◌, ℕ, ◌+◌, ◌-◌, Bool, true, false, cond, List, [], ◌∷◌, length, Option, Some, None, refl, sym, ap, subst, ◌∙◌, arith}
use Rattle.std.specs.Prelude.{is_some, IfSome}
use Rattle.std.specs.BTreeMap.{insert_entry}
use Rattle.std.specs.Cmp.{eq_by_cmp_equiv}
use Rattle.std.specs.List.Sorted.{IsStrictlySortedBy}
use Rattle.std.specs.Map.{lookup, remove_entry, keys_of}
use Rattle.std.specs.Option.{option_map}
use Rattle.std.proofs.lemmas.Map.{lookup-remove_entry}
use Rattle.std.proofs.lemmas.Map.Keys.{IsDistinct-from_sorted}
use Rattle.mt_path.specs.AccountPath.{AccountPath, parent_of}
use Rattle.mt_path.specs.PathOrder.{path_cmp, path_cmp_total}
use Rattle.mt_types.specs.declared.object.Entry.{Entry}
use Rattle.mt_model.specs.Rows.{Rows, is_path, is_child, at, with_row, without_row, is_directory, children, IsTree}
use Rattle.mt_model.proofs.Entries.{lookup-insert_entry}
use Rattle.mt_model.proofs.RowLaws.{is_path-exact, is_path-self, parent-is_child, is_child-parent}
use Rattle.mt_model.proofs.Children.{no_own_child, no_children}
use Rattle.mt_tree.specs.AreaRows.{changed, AreCounts}
use Rattle.mt_tree.proofs.Changed.{lookup-changed}
use Rattle.mt_tree.proofs.Counts.{one, passing-insert, passing-remove}

-- a change at one key leaves the others
module _ {X : Type 0} (f : X → X) (d q : AccountPath) where
  elsewhere : (es : List (AccountPath × X)) → is_path d q ≡ false → lookup (is_path q) (changed (is_path d) f es) ≡ lookup (is_path q) es
  elsewhere [] other = refl
  elsewhere (e ∷ es) other = elim (is_path d e.0) as (λ b. is_path d e.0 ≡ b → lookup (is_path q) (cond b ((e.0, f e.1) ∷ es) (e ∷ changed (is_path d) f es)) ≡ cond (is_path q e.0) (Some e.1) (lookup (is_path q) es)) [
    | true ↦ λ h.
        let no : is_path q e.0 ≡ false = (eq_by_cmp_equiv path_cmp_total).symm q e.0 ∙ ap (λ x. is_path x q) (sym (is_path-exact d e.0 h)) ∙ other in
        ap (λ b. cond b (Some (f e.1)) (lookup (is_path q) es)) no ∙ sym (ap (λ b. cond b (Some e.1) (lookup (is_path q) es)) no)
    | false ↦ λ h. ap (cond (is_path q e.0) (Some e.1)) (elsewhere es other)
  ] refl

  at_key : (es : List (AccountPath × X)) (b : Bool) → is_path d q ≡ b → lookup (is_path q) (changed (is_path d) f es) ≡ cond b (option_map f (lookup (is_path q) es)) (lookup (is_path q) es)
  at_key es true h = subst (λ x. lookup (is_path x) (changed (is_path d) f es) ≡ option_map f (lookup (is_path x) es)) (is_path-exact d q h) (lookup-changed (is_path d) f es)
  at_key es false h = elsewhere es h

  pub at-changed : (es : List (AccountPath × X)) → lookup (is_path q) (changed (is_path d) f es) ≡ cond (is_path d q) (option_map f (lookup (is_path q) es)) (lookup (is_path q) es)
  at-changed es = at_key es (is_path d q) refl

-- a path is a child of no other path than the one above
not_child : (p d q : AccountPath) → parent_of p ≡ Some d → is_path d q ≡ false → (b : Bool) → is_child q p ≡ b → b ≡ false
not_child p d q is other true child = let same : d ≡ q = let both : Some d ≡ Some q = sym is ∙ parent-is_child q p child in cc in let self : is_path d q ≡ true = ap (is_path d) (sym same) ∙ is_path-self d in cc
not_child p d q is other false child = refl

counted_as : (o : Option ℕ) (f : ℕ → ℕ) (n m : ℕ) → IfSome o (λ x. x ≡ n) → f n ≡ m → IfSome (option_map f o) (λ x. x ≡ m)
counted_as None f n m counted e = tt
counted_as (Some x) f n m counted e = ap f counted ∙ e

still_counted : (o : Option ℕ) (n m : ℕ) → IfSome o (λ x. x ≡ n) → n ≡ m → IfSome o (λ x. x ≡ m)
still_counted o n m counted e = subst (λ k. IfSome o (λ x. x ≡ k)) e counted

module _ {B : Type 0} (rows : Rows B) (numbers : List (AccountPath × ℕ)) (p d : AccountPath) (law : IsTree rows) (counts : AreCounts rows numbers) (is : parent_of p ≡ Some d) where
  -- a number more at the path above, where no row stood at the path
  abbrev pub more : Bool → List (AccountPath × ℕ)
  more there = cond there numbers (changed (is_path d) (λ n. n + 1) numbers)

  module _ (e : Entry B) (free : is_directory (at rows p) ≡ false) where
    new_count : (q : AccountPath) → length (children (with_row rows p e) q) ≡ length (children rows q) + cond (is_some (at rows p)) 0 (one (is_child q p))
    new_count q = passing-insert path_cmp (is_child q) p path_cmp_total e rows law.ordered

    no_more : (q : AccountPath) → is_child q p ≡ false → length (children rows q) ≡ length (children (with_row rows p e) q)
    no_more q no_child =
        let none : (b : Bool) → cond b 0 (one false) ≡ 0 = nothing in
        let n = new_count q ∙ ap (λ b. length (children rows q) + cond (is_some (at rows p)) 0 (one b)) no_child in
        let z = none (is_some (at rows p)) in
        omega arith
      where
        nothing : (b : Bool) → cond b 0 (one false) ≡ 0
        nothing true = refl
        nothing false = refl

    above_case : (q : AccountPath) (there b : Bool) → is_some (at rows p) ≡ there → is_path d q ≡ b → IfSome (lookup (is_path q) (more there)) (λ n. n ≡ length (children (with_row rows p e) q))
    above_case q true b stood h =
        still_counted (lookup (is_path q) numbers) (length (children rows q)) _ (counts q)
        (let n = new_count q ∙ ap (λ x. length (children rows q) + cond x 0 (one (is_child q p))) stood in omega arith)
    above_case q false true stood h =
        let child : is_child q p ≡ true = is_child-parent q p (is ∙ ap Some (is_path-exact d q h)) in
        let n = new_count q ∙ ap (λ x. length (children rows q) + cond x 0 (one (is_child q p))) stood ∙ ap (λ x. length (children rows q) + one x) child in
        subst (λ o. IfSome o (λ n. n ≡ length (children (with_row rows p e) q)))
        (sym (at-changed (λ n. n + 1) d q numbers ∙ ap (λ b. cond b (option_map (λ n. n + 1) (lookup (is_path q) numbers)) (lookup (is_path q) numbers)) h))
        (counted_as (lookup (is_path q) numbers) (λ n. n + 1) (length (children rows q)) _ (counts q) (omega arith))
    above_case q false false stood h =
        subst (λ o. IfSome o (λ n. n ≡ length (children (with_row rows p e) q)))
        (sym (at-changed (λ n. n + 1) d q numbers ∙ ap (λ b. cond b (option_map (λ n. n + 1) (lookup (is_path q) numbers)) (lookup (is_path q) numbers)) h))
        (still_counted (lookup (is_path q) numbers) (length (children rows q)) _ (counts q) (no_more q (not_child p d q is h (is_child q p) refl)))

    own_case : (q : AccountPath) (b : Bool) → is_path p q ≡ b → IfSome (cond b (Some 0) (lookup (is_path q) (more (is_some (at rows p))))) (λ n. n ≡ length (children (with_row rows p e) q))
    own_case q true h =
        subst (λ x. 0 ≡ length (children (with_row rows p e) x)) (is_path-exact p q h)
        (sym (no_children rows law p free) ∙ no_more p (no_own_child p))
    own_case q false h = above_case q (is_some (at rows p)) (is_path d q) refl refl

    pub counts-with_row : AreCounts (with_row rows p e) (insert_entry path_cmp (more (is_some (at rows p))) p 0)
    counts-with_row q = subst (λ o. IfSome o (λ n. n ≡ length (children (with_row rows p e) q))) (sym (lookup-insert_entry path_cmp_total p 0 q (more (is_some (at rows p))))) (own_case q (is_path p q) refl)

  module _ (there : is_some (at rows p) ≡ true) (sorted : IsStrictlySortedBy path_cmp (keys_of (changed (is_path d) (λ n. n - 1) numbers))) where
    old_count : (q : AccountPath) → length (children (without_row rows p) q) + one (is_child q p) ≡ length (children rows q)
    old_count q = ap (λ b. length (children (without_row rows p) q) + cond b (one (is_child q p)) 0) (sym there) ∙ passing-remove path_cmp (is_child q) p (is_path-exact p) rows

    fewer_case : (q : AccountPath) (b : Bool) → is_path d q ≡ b → IfSome (lookup (is_path q) (changed (is_path d) (λ n. n - 1) numbers)) (λ n. n ≡ length (children (without_row rows p) q))
    fewer_case q true h =
        let child : is_child q p ≡ true = is_child-parent q p (is ∙ ap Some (is_path-exact d q h)) in
        let n = ap (λ b. length (children (without_row rows p) q) + one b) (sym child) ∙ old_count q in
        subst (λ o. IfSome o (λ n. n ≡ length (children (without_row rows p) q)))
        (sym (at-changed (λ n. n - 1) d q numbers ∙ ap (λ b. cond b (option_map (λ n. n - 1) (lookup (is_path q) numbers)) (lookup (is_path q) numbers)) h))
        (counted_as (lookup (is_path q) numbers) (λ n. n - 1) (length (children rows q)) _ (counts q) (omega arith))
    fewer_case q false h =
        let no_child : is_child q p ≡ false = not_child p d q is h (is_child q p) refl in
        let n = ap (λ b. length (children (without_row rows p) q) + one b) (sym no_child) ∙ old_count q in
        subst (λ o. IfSome o (λ n. n ≡ length (children (without_row rows p) q)))
        (sym (at-changed (λ n. n - 1) d q numbers ∙ ap (λ b. cond b (option_map (λ n. n - 1) (lookup (is_path q) numbers)) (lookup (is_path q) numbers)) h))
        (still_counted (lookup (is_path q) numbers) (length (children rows q)) _ (counts q) (omega arith))

    gone_case : (q : AccountPath) (b : Bool) → IfSome (cond b None (lookup (is_path q) (changed (is_path d) (λ n. n - 1) numbers))) (λ n. n ≡ length (children (without_row rows p) q))
    gone_case q true = tt
    gone_case q false = fewer_case q (is_path d q) refl

    pub counts-without_row : AreCounts (without_row rows p) (remove_entry (is_path p) (changed (is_path d) (λ n. n - 1) numbers))
    counts-without_row q =
        subst (λ o. IfSome o (λ n. n ≡ length (children (without_row rows p) q)))
        (sym (lookup-remove_entry (eq_by_cmp_equiv path_cmp_total) (is_path p) (λ x y t. (eq_by_cmp_equiv path_cmp_total).congr p x y t) q (changed (is_path d) (λ n. n - 1) numbers) (IsDistinct-from_sorted path_cmp _ sorted)))
        (gone_case q (is_path p q))
