-- What a change leaves at each path, that each change that is not refused keeps a tree, and how a row's change is undone.
use Rattle.std.proofs.Common.{◌≡◌, ℕ, Bool, true, false, cond, [], ◌∷◌, length, Option, Some, None, not, refl, sym, ap, subst, ◌∙◌, arith}
use Rattle.std.specs.Prelude.{is_some, IsSome}
use Rattle.std.specs.Cmp.{unsigned_Decides, eq_by_cmp_equiv}
use Rattle.std.specs.List.Sorted.{IsStrictlySortedBy}
use Rattle.std.specs.Map.{lookup, keys_of}
use Rattle.std.specs.Ordering.{is_eq}
use Rattle.std.specs.declared.cmp.Ordering.{Ordering}
use Rattle.std.specs.declared.cmp.Ordering.TheVariants.{Less, Equal, Greater}
use Rattle.std.proofs.lemmas.Map.{lookup-remove_entry}
use Rattle.std.proofs.lemmas.Map.Entries.{lookup-filter-keys}
use Rattle.std.proofs.lemmas.Map.Keys.{IsDistinct-from_sorted}
use Rattle.mt_path.specs.AccountPath.{AccountPath, parent_of, root_of}
use Rattle.mt_path.specs.PathOrder.{path_cmp, path_cmp_total}
use Rattle.mt_path.specs.declared.area.Area.{Area}
use Rattle.mt_path.specs.declared.area.Area.TheVariants.{Stor, Public, Jobs}
use Rattle.mt_path.proofs.Orders.{path_cmp-exact}
use Rattle.mt_types.specs.declared.object.Entry.{Entry}
use Rattle.mt_types.specs.declared.object.Entry.TheVariants as entry
use Rattle.mt_types.specs.declared.object.Object.{Object}
use Rattle.mt_types.specs.declared.refusal.Refusal.{Refusal}
use Rattle.mt_model.specs.Rows.{Rows, is_path, is_above, is_child, is_root, first_refusal, refuse_if, at, with_row, without_row, is_directory, children, directory_refusal, above_refusal, parent_refusal, put_refusal, make_directory_refusal, remove_refusal, link_refusal, IsTree, first_rows}
use Rattle.mt_model.proofs.Entries.{lookup-insert_entry, sorted-insert_entry, sorted-remove_entry, undo_new, undo_old}

equal : (r : Ordering) → is_eq r ≡ true → r ≡ Equal
equal Less e = cc
equal Equal e = refl
equal Greater e = cc

pub is_path-exact : (p q : AccountPath) → is_path p q ≡ true → p ≡ q
is_path-exact p q e = (path_cmp-exact p q).0 (equal (path_cmp p q) e)

pub is_path-self : (p : AccountPath) → is_path p p ≡ true
is_path-self p = (eq_by_cmp_equiv path_cmp_total).refl p

-- a child is one whose parent is the directory
child_case : (d : AccountPath) (o : Option AccountPath) → is_above d o ≡ true → o ≡ Some d
child_case d None e = cc
child_case d (Some q) e = ap Some (sym (is_path-exact d q e))

pub parent-is_child : (d p : AccountPath) → is_child d p ≡ true → parent_of p ≡ Some d
parent-is_child d p e = child_case d (parent_of p) e

pub is_child-parent : (d p : AccountPath) → parent_of p ≡ Some d → is_child d p ≡ true
is_child-parent d p e = ap (is_above d) e ∙ is_path-self d

module _ {B : Type 0} where
  pub at-with_row : (rows : Rows B) (p : AccountPath) (e : Entry B) (q : AccountPath) → at (with_row rows p e) q ≡ cond (is_path p q) (Some e) (at rows q)
  at-with_row rows p e q = lookup-insert_entry path_cmp_total p e q rows

  pub at-without_row : (rows : Rows B) (p q : AccountPath) → IsStrictlySortedBy path_cmp (keys_of rows) → at (without_row rows p) q ≡ cond (is_path p q) None (at rows q)
  at-without_row rows p q s =
      lookup-remove_entry (eq_by_cmp_equiv path_cmp_total) (is_path p) (λ x y t. (eq_by_cmp_equiv path_cmp_total).congr p x y t) q rows
      (IsDistinct-from_sorted path_cmp (keys_of rows) s)

  pub sorted-with_row : (rows : Rows B) (p : AccountPath) (e : Entry B) → IsStrictlySortedBy path_cmp (keys_of rows) → IsStrictlySortedBy path_cmp (keys_of (with_row rows p e))
  sorted-with_row rows p e s = sorted-insert_entry path_cmp_total p e rows s

  pub sorted-without_row : (rows : Rows B) (p : AccountPath) → IsStrictlySortedBy path_cmp (keys_of rows) → IsStrictlySortedBy path_cmp (keys_of (without_row rows p))
  sorted-without_row rows p s = sorted-remove_entry path_cmp (is_path p) rows s

  -- a row that was added is undone by its removal
  pub undo-new_row : (rows : Rows B) (p : AccountPath) (e : Entry B) → at rows p ≡ None → without_row (with_row rows p e) p ≡ rows
  undo-new_row rows p e none = undo_new path_cmp p (equal (path_cmp p p) (is_path-self p)) e rows none

  -- a row that was replaced is undone by the one that stood there
  pub undo-old_row : (rows : Rows B) (p : AccountPath) (e old : Entry B) → IsStrictlySortedBy path_cmp (keys_of rows) → at rows p ≡ Some old → with_row (with_row rows p e) p old ≡ rows
  undo-old_row rows p e old s some = undo_old path_cmp p (equal (path_cmp p p) (is_path-self p)) path_cmp_total e old rows s some

  -- a row that is added where the parent is a directory and directories stay directories
  module _ (rows : Rows B) (p : AccountPath) (e : Entry B) (keep : is_directory (at rows p) ≡ true → is_directory (Some e) ≡ true) where
    stays_case : (q : AccountPath) (b : Bool) → is_path p q ≡ b → is_directory (at rows q) ≡ true → is_directory (cond b (Some e) (at rows q)) ≡ true
    stays_case q true t d = keep (ap (λ x. is_directory (at rows x)) (is_path-exact p q t) ∙ d)
    stays_case q false t d = d

    stays : (q : AccountPath) → is_directory (at rows q) ≡ true → is_directory (at (with_row rows p e) q) ≡ true
    stays q d = ap is_directory (at-with_row rows p e q) ∙ stays_case q (is_path p q) refl d

    parent_case : IsTree rows → ((d : AccountPath) → parent_of p ≡ Some d → is_directory (at rows d) ≡ true) → (q d : AccountPath) (b : Bool) → is_path p q ≡ b → IsSome (cond b (Some e) (at rows q)) → parent_of q ≡ Some d → is_directory (at rows d) ≡ true
    parent_case law up q d true t some is = up d (ap parent_of (is_path-exact p q t) ∙ is)
    parent_case law up q d false t some is = law.parents q d some is

    pub IsTree-with_row : IsTree rows → ((d : AccountPath) → parent_of p ≡ Some d → is_directory (at rows d) ≡ true) → IsTree (with_row rows p e)
    IsTree-with_row law up = record {
      ordered = sorted-with_row rows p e law.ordered;
      roots = λ area. stays (root_of area) (law.roots area);
      parents = λ q d some is. stays d (parent_case law up q d (is_path p q) refl (subst IsSome (at-with_row rows p e q) some) is);
    }

  none_left : (rs : Rows B) → length rs ≡ 0 → rs ≡ []
  none_left [] e = refl
  none_left (r ∷ rs) e = absurd (omega arith)

  -- a directory with no child has no row one below it
  pub childless : (rows : Rows B) (d p : AccountPath) → length (children rows d) ≡ 0 → parent_of p ≡ Some d → at rows p ≡ None
  childless rows d p none is =
      sym (lookup-filter-keys (is_path p) (is_child d) true (λ k t. ap (is_child d) (sym (is_path-exact p k t)) ∙ is_child-parent d p is) rows)
      ∙ ap (lookup (is_path p)) (none_left (children rows d) none)

  -- a row that is removed where it is no root and no row stands one below it
  module _ (rows : Rows B) (p : AccountPath) (law : IsTree rows) (below : is_root p ≡ false) (none : length (children rows p) ≡ 0) where
    left : (q : AccountPath) → at (without_row rows p) q ≡ cond (is_path p q) None (at rows q)
    left q = at-without_row rows p q law.ordered

    root_case : (area : Area) (b : Bool) → is_path p (root_of area) ≡ b → is_directory (cond b None (at rows (root_of area))) ≡ true
    root_case area true t = let e : is_root p ≡ true = ap is_root (is_path-exact p (root_of area) t) in cc
    root_case area false t = law.roots area

    above_case : (q d : AccountPath) → IsSome (at rows q) → parent_of q ≡ Some d → (b : Bool) → is_path p d ≡ b → is_directory (cond b None (at rows d)) ≡ true
    above_case q d some is true t = let gone : at rows q ≡ None = childless rows p q none (is ∙ ap Some (sym (is_path-exact p d t))) in let is_there = subst IsSome gone some in cc
    above_case q d some is false t = law.parents q d some is

    was_there : (q : AccountPath) (b : Bool) → IsSome (cond b None (at rows q)) → IsSome (at rows q)
    was_there q true some = cc
    was_there q false some = some

    pub IsTree-without_row : IsTree (without_row rows p)
    IsTree-without_row = record {
      ordered = sorted-without_row rows p law.ordered;
      roots = λ area. ap is_directory (left (root_of area)) ∙ root_case area (is_path p (root_of area)) refl;
      parents = λ q d some is. ap is_directory (left d) ∙ above_case q d (was_there q (is_path p q) (subst IsSome (left q) some)) is (is_path p d) refl;
    }

-- what a test that refuses nothing has seen
pub neither : (first later : Option Refusal) → first_refusal first later ≡ None → (first ≡ None) × (later ≡ None)
neither None later e = (refl, e)
neither (Some r) later e = cc

pub not_refused : (test : Bool) (refusal : Refusal) → refuse_if test refusal ≡ None → test ≡ false
not_refused true refusal e = cc
not_refused false refusal e = refl

holds_if : (b : Bool) → not b ≡ false → b ≡ true
holds_if true e = refl
holds_if false e = cc

absent : {A : Type 0} (o : Option A) → is_some o ≡ false → o ≡ None
absent None e = refl
absent (Some x) e = cc

module _ {B : Type 0} (rows : Rows B) where
  directory_case : (o : Option (Entry B)) → directory_refusal o ≡ None → is_directory o ≡ true
  directory_case None e = cc
  directory_case (Some (entry.Directory mtime)) e = refl
  directory_case (Some (entry.Object object)) e = cc

  allowed_above : (o : Option AccountPath) → above_refusal rows o ≡ None → (d : AccountPath) → o ≡ Some d → is_directory (at rows d) ≡ true
  allowed_above None e d is = cc
  allowed_above (Some q) e d is = let same : q ≡ d = cc in ap (λ x. is_directory (at rows x)) (sym same) ∙ directory_case (at rows q) e

  pub parent-allowed : (p : AccountPath) → parent_refusal rows p ≡ None → (d : AccountPath) → parent_of p ≡ Some d → is_directory (at rows d) ≡ true
  parent-allowed p e d is = allowed_above (parent_of p) e d is

  -- what an object can be put at is no root, below a directory, and no directory
  pub record IsPutAllowed (p : AccountPath) : Type 0 where
    pub below : is_root p ≡ false
    pub parent : (d : AccountPath) → parent_of p ≡ Some d → is_directory (at rows d) ≡ true
    pub free : is_directory (at rows p) ≡ false

  pub put-allowed : (p : AccountPath) → put_refusal rows p ≡ None → IsPutAllowed p
  put-allowed p e =
      let first = neither _ _ e in
      let second = neither _ _ first.1 in
      record { below = not_refused _ _ first.0; parent = parent-allowed p second.0; free = not_refused _ _ second.1 }

  pub make_directory-allowed : (p : AccountPath) → make_directory_refusal rows p ≡ None → (at rows p ≡ None) × ((d : AccountPath) → parent_of p ≡ Some d → is_directory (at rows d) ≡ true)
  make_directory-allowed p e =
      let both = neither _ _ e in
      (absent (at rows p) (not_refused _ _ both.0), parent-allowed p both.1)

  -- what can be removed is no root, stands there, and has no child
  pub record IsRemoveAllowed (p : AccountPath) : Type 0 where
    pub below : is_root p ≡ false
    pub there : IsSome (at rows p)
    pub childless : length (children rows p) ≡ 0

  pub remove-allowed : (p : AccountPath) → remove_refusal rows p ≡ None → IsRemoveAllowed p
  remove-allowed p e =
      let first = neither _ _ e in
      let second = neither _ _ first.1 in
      record {
        below = not_refused _ _ first.0;
        there = holds_if _ (not_refused _ _ second.0);
        childless = (unsigned_Decides (length (children rows p)) 0).0 (holds_if _ (not_refused _ _ second.1));
      }

  pub link-allowed : (p source : AccountPath) → link_refusal rows p source ≡ None → put_refusal rows p ≡ None
  link-allowed p source e = (neither _ _ e).1

  pub IsTree-put : (p : AccountPath) (object : Object B) → IsTree rows → put_refusal rows p ≡ None → IsTree (with_row rows p (entry.Object object))
  IsTree-put p object law e =
      let allowed = put-allowed p e in
      IsTree-with_row rows p (entry.Object object) (λ d. let free = allowed.free in cc) law allowed.parent

  pub IsTree-make_directory : (p : AccountPath) (mtime : ℕ) → IsTree rows → make_directory_refusal rows p ≡ None → IsTree (with_row rows p (entry.Directory mtime))
  IsTree-make_directory p mtime law e = IsTree-with_row rows p (entry.Directory mtime) (λ d. refl) law (make_directory-allowed p e).1

  pub IsTree-link : (p source : AccountPath) (object : Object B) → IsTree rows → link_refusal rows p source ≡ None → IsTree (with_row rows p (entry.Object object))
  IsTree-link p source object law e = IsTree-put p object law (link-allowed p source e)

  pub IsTree-remove : (p : AccountPath) → IsTree rows → remove_refusal rows p ≡ None → IsTree (without_row rows p)
  IsTree-remove p law e =
      let allowed = remove-allowed p e in
      IsTree-without_row rows p law allowed.below allowed.childless

-- the three roots are a tree
module _ (B : Type 0) where
  abbrev first : Rows B
  first = first_rows

  first_ordered : IsStrictlySortedBy path_cmp (keys_of first)
  unfolding IsStrictlySortedBy
  first_ordered = ((refl, (refl, tt)), ((refl, tt), (tt, tt)))

  first_roots : (area : Area) → is_directory (at first (root_of area)) ≡ true
  first_roots Stor = refl
  first_roots Public = refl
  first_roots Jobs = refl

  root_only : (p : AccountPath) (area : Area) (b : Bool) (rest : Option (Entry B)) → is_path p (root_of area) ≡ b → (IsSome rest → parent_of p ≡ None) → IsSome (cond b (Some (entry.Directory 0)) rest) → parent_of p ≡ None
  root_only p area true rest t later some = ap parent_of (is_path-exact p (root_of area) t)
  root_only p area false rest t later some = later some

  first_parents : (p : AccountPath) → IsSome (at first p) → parent_of p ≡ None
  first_parents p =
      root_only p Stor (is_path p (root_of Stor)) _ refl
      (root_only p Public (is_path p (root_of Public)) _ refl
      (root_only p Jobs (is_path p (root_of Jobs)) None refl (λ some. cc)))

  pub IsTree-first_rows : IsTree first
  IsTree-first_rows = record {
    ordered = first_ordered;
    roots = first_roots;
    parents = λ p d some is. let none : parent_of p ≡ None = first_parents p some in cc;
  }
