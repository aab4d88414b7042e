-- A change of the tree that was noted can be taken back, and leads back to what was before.
use Rattle.std.proofs.Common.{◌≡◌, ℕ, ◌==◌, Bool, true, false, cond, not, List, [], ◌∷◌, ◌++◌, length, reverse, Option, Some, None, refl, sym, ap, subst, ◌∙◌, arith, true≢false, eq-eqb}
use Rattle.std.specs.Prelude.{IsSome, is_some}
use Rattle.std.specs.List.{filter}
use Rattle.std.specs.Map.{lookup}
use Rattle.std.specs.declared.cmp.Ordering.TheVariants.{Equal}
use Rattle.std.proofs.lemmas.List.{reverse-append}
use Rattle.std.proofs.lemmas.Map.Entries.{lookup-filter-keys}
use Rattle.mt_path.specs.AccountPath.{AccountPath, parent_of}
use Rattle.mt_path.specs.PathOrder.{path_cmp, path_cmp_total}
use Rattle.mt_path.specs.declared.area.Area.{Area}
use Rattle.mt_path.proofs.Orders.{path_cmp-exact}
use Rattle.mt_types.specs.declared.object.Entry.{Entry}
use Rattle.mt_types.specs.declared.object.Entry.TheVariants as entry
use Rattle.mt_types.specs.declared.object.Object.{Object}
use Rattle.mt_types.specs.declared.refusal.Refusal.TheVariants.{RootDirectory, DirectoryOperation, NotFound, DirectoryNotEmpty}
use Rattle.mt_model.specs.Rows.{Rows, IsTree, at, children, directory_refusal, above_refusal, first_refusal, is_child, is_directory, is_path, is_root, make_directory_refusal, object_at, object_in, parent_refusal, put_refusal, refuse_if, remove_refusal, with_row}
use Rattle.mt_model.proofs.Children.{no_own_child, parent-above}
use Rattle.mt_model.proofs.RowLaws.{at-with_row, is_child-parent, is_path-exact, is_path-self, make_directory-allowed, neither, parent-is_child, put-allowed}
use Rattle.mt_resolve.specs.declared.undo.Undo.{Undo}
use Rattle.mt_resolve.specs.Undo.{LeadsBack, MayAllBack, MayOneBack, MayRowBack, all_back, one_back, row_back}
use Rattle.mt_resolve.proofs.Undone.{undo_new, undo_old}

itself : (p : AccountPath) → path_cmp p p ≡ Equal
itself p = (path_cmp-exact p p).1 refl

module _ {B : Type 0} where
  -- ---- nothing stands below what was just put where nothing stood

  filter_head : (t : AccountPath × Entry B → Bool) (rows : Rows B) (r : AccountPath × Entry B) (rs : Rows B) → filter t rows ≡ r ∷ rs → t r ≡ true
  filter_head t [] r rs is = cc
  filter_head t (x ∷ xs) r rs is = by (t x) refl is (filter_head t xs r rs)
    where
      by : (b : Bool) → t x ≡ b → cond b (x ∷ filter t xs) (filter t xs) ≡ r ∷ rs → (filter t xs ≡ r ∷ rs → t r ≡ true) → t r ≡ true
      by true e is more = let same : x ≡ r = cc in ap t (sym same) ∙ e
      by false e is more = more is

  -- a child of a directory stands there
  child_stands : (rows : Rows B) (d : AccountPath) (r : AccountPath × Entry B) (rs : Rows B) → children rows d ≡ r ∷ rs → at rows r.0 ≡ Some r.1
  child_stands rows d r rs is =
      let child : is_child d r.0 ≡ true = filter_head (λ r. is_child d r.0) rows r rs is in
      sym (lookup-filter-keys (is_path r.0) (is_child d) true (λ k t. ap (is_child d) (sym (is_path-exact r.0 k t)) ∙ child) rows)
      ∙ ap (lookup (is_path r.0)) is
      ∙ ap (λ b. cond b (Some r.1) (lookup (is_path r.0) rs)) (is_path-self r.0)

  stood_before : (rows : Rows B) (p : AccountPath) (e : Entry B) (q : AccountPath) → is_child p q ≡ true → (b : Bool) → is_path p q ≡ b → IsSome (cond b (Some e) (at rows q)) → IsSome (at rows q)
  stood_before rows p e q child true same some =
      absurd (true≢false (sym (ap (is_child p) (is_path-exact p q same) ∙ child) ∙ no_own_child p))
  stood_before rows p e q child false same some = some

  no_child_case : (rows : Rows B) (p : AccountPath) (e : Entry B) → IsTree rows → at rows p ≡ None → (kids : Rows B) → children (with_row rows p e) p ≡ kids → length kids ≡ 0
  no_child_case rows p e law none [] is = refl
  no_child_case rows p e law none (r ∷ rs) is =
      let child : is_child p r.0 ≡ true = filter_head (λ r. is_child p r.0) (with_row rows p e) r rs is in
      let there : at (with_row rows p e) r.0 ≡ Some r.1 = child_stands (with_row rows p e) p r rs is in
      let some : IsSome (at rows r.0) = stood_before rows p e r.0 child (is_path p r.0) refl (subst IsSome (sym there ∙ at-with_row rows p e r.0) refl) in
      let above : is_directory (at rows p) ≡ true = law.parents r.0 p some (parent-is_child p r.0 child) in
      absurd (true≢false (sym above ∙ ap is_directory none))

  no_child : (rows : Rows B) (p : AccountPath) (e : Entry B) → IsTree rows → at rows p ≡ None → length (children (with_row rows p e) p) ≡ 0
  no_child rows p e law none = no_child_case rows p e law none (children (with_row rows p e) p) refl

  here : (rows : Rows B) (p : AccountPath) (e : Entry B) → at (with_row rows p e) p ≡ Some e
  here rows p e = at-with_row rows p e p ∙ ap (λ b. cond b (Some e) (at rows p)) (is_path-self p)

  may_remove : (rows : Rows B) (p : AccountPath) (e : Entry B) → IsTree rows → at rows p ≡ None → is_root p ≡ false → remove_refusal (with_row rows p e) p ≡ None
  may_remove rows p e law none below =
      ap (λ b. first_refusal (refuse_if b RootDirectory) (first_refusal (refuse_if (not (is_some (at (with_row rows p e) p))) NotFound) (refuse_if (not (length (children (with_row rows p e) p) == 0)) DirectoryNotEmpty))) below
      ∙ ap (λ o. first_refusal (refuse_if (not (is_some o)) NotFound) (refuse_if (not (length (children (with_row rows p e) p) == 0)) DirectoryNotEmpty)) (here rows p e)
      ∙ ap (λ b. refuse_if (not b) DirectoryNotEmpty) (eq-eqb (length (children (with_row rows p e) p)) 0 (no_child rows p e law none))

  -- ---- an object may be put where one was just put

  above_stays : (rows : Rows B) (p : AccountPath) (e : Entry B) → (o : Option AccountPath) → parent_of p ≡ o → above_refusal rows o ≡ None → above_refusal (with_row rows p e) o ≡ None
  above_stays rows p e None is none = refl
  above_stays rows p e (Some d) is none = ap directory_refusal (at-with_row rows p e d ∙ ap (λ b. cond b (Some e) (at rows d)) (other (is_path p d) refl)) ∙ none
    where
      other : (b : Bool) → is_path p d ≡ b → b ≡ false
      other true same = absurd (true≢false (sym (is_child-parent d p is) ∙ ap (λ q. is_child q p) (sym (is_path-exact p d same)) ∙ no_own_child p))
      other false same = refl

  may_put_again : (rows : Rows B) (p : AccountPath) (object : Object B) → put_refusal rows p ≡ None → put_refusal (with_row rows p (entry.Object object)) p ≡ None
  may_put_again rows p object allowed =
      let parts = neither _ _ allowed in
      let more = neither _ _ parts.1 in
      let e : Entry B = entry.Object object in
      ap (λ r. first_refusal r (first_refusal (parent_refusal (with_row rows p e) p) (refuse_if (is_directory (at (with_row rows p e) p)) DirectoryOperation))) parts.0
      ∙ ap (λ r. first_refusal r (refuse_if (is_directory (at (with_row rows p e) p)) DirectoryOperation)) (above_stays rows p e (parent_of p) refl more.0)
      ∙ ap (λ o. refuse_if (is_directory o) DirectoryOperation) (here rows p e)

  -- ---- one change

  -- what stood there, taken back, is what was before; and the tree takes it back
  record OneBack (rows : Rows B) (p : AccountPath) (was : Option (Object B)) (e : Entry B) : Type 0 where
    may : MayRowBack (with_row rows p e) p was
    back : row_back (with_row rows p e) p was ≡ rows

  put_case : (rows : Rows B) (p : AccountPath) (object : Object B) → IsTree rows → put_refusal rows p ≡ None → (o : Option (Entry B)) → at rows p ≡ o → OneBack rows p (object_in o) (entry.Object object)
  put_case rows p object law allowed None is = record {
    may = may_remove rows p (entry.Object object) law is (put-allowed rows p allowed).below;
    back = undo_new path_cmp p (itself p) (entry.Object object) rows is;
  }
  put_case rows p object law allowed (Some (entry.Directory mtime)) is = absurd (true≢false (sym (ap is_directory is) ∙ (put-allowed rows p allowed).free))
  put_case rows p object law allowed (Some (entry.Object old)) is = record {
    may = may_put_again rows p object allowed;
    back = undo_old path_cmp p (itself p) path_cmp_total (entry.Object object) (entry.Object old) rows law.ordered is;
  }

  root_stands : (rows : Rows B) (p : AccountPath) → IsTree rows → at rows p ≡ None → (b : Bool) → is_root p ≡ b → b ≡ false
  root_stands rows p law none true is = absurd (root_case p.area p.parts is none)
    where
      root_case : (area : Area) (parts : List (List ℕ)) → is_root (record { area = area; parts = parts }) ≡ true → at rows (record { area = area; parts = parts }) ≡ None → ⊥
      root_case area [] root gone = true≢false (sym (law.roots area) ∙ ap is_directory gone)
      root_case area (x ∷ xs) root gone = true≢false (sym root ∙ ap (λ o. not (is_some o)) (parent-above (record { area = area; parts = x ∷ xs }) (omega arith)))
  root_stands rows p law none false is = refl

  make_case : (rows : Rows B) (p : AccountPath) (moment : ℕ) → IsTree rows → make_directory_refusal rows p ≡ None → OneBack rows p None (entry.Directory moment)
  make_case rows p moment law allowed =
      let none : at rows p ≡ None = (make_directory-allowed rows p allowed).0 in
      record {
        may = may_remove rows p (entry.Directory moment) law none (root_stands rows p law none (is_root p) refl);
        back = undo_new path_cmp p (itself p) (entry.Directory moment) rows none;
      }

  -- ---- a list of changes with one more

  reverse_push : (changes : List (Undo B)) (u : Undo B) → reverse (changes ++ u ∷ []) ≡ u ∷ reverse changes
  reverse_push changes u = reverse-append changes (u ∷ [])

  leads_on : (changes : List (Undo B)) (u : Undo B) (rows new start : Rows B) → MayOneBack u new → one_back u new ≡ rows → LeadsBack changes rows start → LeadsBack (changes ++ u ∷ []) new start
  leads_on changes u rows new start may back leads = record {
    may = subst (λ l. MayAllBack l new) (sym (reverse_push changes u)) (may, subst (λ r. MayAllBack (reverse changes) r) (sym back) leads.may);
    back = ap (λ l. all_back l new) (reverse_push changes u) ∙ ap (all_back (reverse changes)) back ∙ leads.back;
  }

  -- an object that was put, with what stood there noted
  pub put_leads : (changes : List (Undo B)) (rows start : Rows B) (p : AccountPath) (object : Object B) → IsTree rows → put_refusal rows p ≡ None → LeadsBack changes rows start
      → LeadsBack (changes ++ record { path = p; was = object_at rows p } ∷ []) (with_row rows p (entry.Object object)) start
  put_leads changes rows start p object law allowed leads =
      let one = put_case rows p object law allowed (at rows p) refl in
      leads_on changes (record { path = p; was = object_at rows p }) rows (with_row rows p (entry.Object object)) start one.may one.back leads

  -- a directory that was made
  pub make_leads : (changes : List (Undo B)) (rows start : Rows B) (p : AccountPath) (moment : ℕ) → IsTree rows → make_directory_refusal rows p ≡ None → LeadsBack changes rows start
      → LeadsBack (changes ++ record { path = p; was = None } ∷ []) (with_row rows p (entry.Directory moment)) start
  make_leads changes rows start p moment law allowed leads =
      let one = make_case rows p moment law allowed in
      leads_on changes (record { path = p; was = None }) rows (with_row rows p (entry.Directory moment)) start one.may one.back leads

  -- no change leads back to where it is
  pub none_leads : (rows : Rows B) → LeadsBack [] rows rows
  none_leads rows = record { may = tt; back = refl }
