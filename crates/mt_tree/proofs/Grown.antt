-- The kept rows after a row was added, and after one was removed.
use Rattle.std.proofs.Common.{◌≡◌, ℕ, zero, suc, ◌+◌, ◌-◌, ◌<◌, Bool, true, false, cond, List, [], ◌∷◌, length, Option, Some, None, refl, sym, ap, subst, ◌∙◌, arith}
use Rattle.std.specs.Prelude.{is_some, IfSome, All}
use Rattle.std.specs.BTreeMap.{insert_entry}
use Rattle.std.specs.List.Sorted.{IsStrictlySortedBy}
use Rattle.std.specs.Map.{lookup, remove_entry, keys_of}
use Rattle.std.specs.Option.{option_map}
use Rattle.std.proofs.lemmas.Map.Views.{All-keys-insert_entry, All-map-remove_entry}
use Rattle.mt_path.specs.AccountPath.{AccountPath, IsPath, parent_of}
use Rattle.mt_path.specs.PathOrder.{path_cmp}
use Rattle.mt_types.specs.declared.object.Entry.{Entry}
use Rattle.mt_model.specs.Rows.{is_path, is_root, at, with_row, without_row, is_directory, children, IsTree}
use Rattle.mt_model.proofs.RowLaws.{IsTree-with_row, IsTree-without_row, childless}
use Rattle.mt_tree.specs.declared.kept.KeptRow.{KeptRow}
use Rattle.mt_tree.specs.AreaRows.{changed, raised, lowered, childless as without_children, rows_of, numbers_of, AreCounts, IsKept}
use Rattle.mt_tree.proofs.Keeps.{counts-with_row, counts-without_row}
use Rattle.mt_tree.proofs.Valued.{keys-valued, lookup-valued, remove-valued, insert-valued, changed-valued, same-valued}

keys-changed : {K X : Type 0} (test : K → Bool) (f : X → X) (es : List (K × X)) → keys_of (changed test f es) ≡ keys_of es
keys-changed test f [] = refl
keys-changed test f (e ∷ es) = elim (test e.0) as (λ b. keys_of (cond b ((e.0, f e.1) ∷ es) (e ∷ changed test f es)) ≡ keys_of (e ∷ es)) [ true ↦ refl | false ↦ ap (λ l. e.0 ∷ l) (keys-changed test f es) ]

some_mapped : {X Y : Type 0} (h : X → Y) (o : Option X) → is_some (option_map h o) ≡ is_some o
some_mapped h None = refl
some_mapped h (Some x) = refl

module _ {B : Type 0} (kept : List (AccountPath × KeptRow B)) where
  is_kept_at : (p : AccountPath) → is_some (at (rows_of kept) p) ≡ is_some (lookup (is_path p) kept)
  is_kept_at p = ap is_some (lookup-valued (λ row. row.entry) (is_path p) kept) ∙ some_mapped (λ row. row.entry) (lookup (is_path p) kept)

  -- what the number at a path is
  number_case : (p : AccountPath) (m : ℕ) (o : Option (KeptRow B)) → IfSome (option_map (λ row. row.children) o) (λ n. n ≡ m) → IfSome o (λ row. row.children ≡ m)
  number_case p m None counted = tt
  number_case p m (Some row) counted = counted

  pub number-is : AreCounts (rows_of kept) (numbers_of kept) → (p : AccountPath) → IfSome (lookup (is_path p) kept) (λ row. row.children ≡ length (children (rows_of kept) p))
  number-is counts p = number_case p (length (children (rows_of kept) p)) (lookup (is_path p) kept) (subst (λ o. IfSome o (λ n. n ≡ length (children (rows_of kept) p))) (lookup-valued (λ row. row.children) (is_path p) kept) (counts p))

  module _ (p d : AccountPath) where
    -- one child more at the path above, where no row stood at the path
    abbrev pub room : List (AccountPath × KeptRow B)
    room = cond (is_some (lookup (is_path p) kept)) kept (changed (is_path d) raised kept)

    rows_case : (b : Bool) → rows_of (cond b kept (changed (is_path d) raised kept)) ≡ rows_of kept
    rows_case true = refl
    rows_case false = same-valued (λ row. row.entry) raised (λ row. refl) (is_path d) kept

    numbers_case : (b : Bool) → numbers_of (cond b kept (changed (is_path d) raised kept)) ≡ cond b (numbers_of kept) (changed (is_path d) (λ n. n + 1) (numbers_of kept))
    numbers_case true = refl
    numbers_case false = changed-valued (λ row. row.children) raised (λ n. n + 1) (λ row. refl) (is_path d) kept

    pub rows-grown : (e : Entry B) → rows_of (insert_entry path_cmp room p (without_children e)) ≡ with_row (rows_of kept) p e
    rows-grown e = insert-valued (λ row. row.entry) path_cmp room p (without_children e) ∙ ap (λ rows. with_row rows p e) (rows_case (is_some (lookup (is_path p) kept)))

    numbers-grown : (e : Entry B) → numbers_of (insert_entry path_cmp room p (without_children e)) ≡ insert_entry path_cmp (cond (is_some (at (rows_of kept) p)) (numbers_of kept) (changed (is_path d) (λ n. n + 1) (numbers_of kept))) p 0
    numbers-grown e =
        insert-valued (λ row. row.children) path_cmp room p (without_children e)
        ∙ ap (λ numbers. insert_entry path_cmp numbers p 0)
        (numbers_case (is_some (lookup (is_path p) kept)) ∙ ap (λ b. cond b (numbers_of kept) (changed (is_path d) (λ n. n + 1) (numbers_of kept))) (sym (is_kept_at p)))

    same_parent : parent_of p ≡ Some d → is_directory (at (rows_of kept) d) ≡ true → (x : AccountPath) → parent_of p ≡ Some x → is_directory (at (rows_of kept) x) ≡ true
    same_parent is directory x also = let same : d ≡ x = let both : Some d ≡ Some x = sym is ∙ also in cc in ap (λ y. is_directory (at (rows_of kept) y)) (sym same) ∙ directory

    pub kept-grown : (e : Entry B) → IsKept kept → IsPath p → parent_of p ≡ Some d → is_directory (at (rows_of kept) d) ≡ true → is_directory (at (rows_of kept) p) ≡ false → IsKept (insert_entry path_cmp room p (without_children e))
    kept-grown e k path is directory free = record {
      tree = subst IsTree (sym (rows-grown e)) (IsTree-with_row (rows_of kept) p e (λ old. cc) k.tree (same_parent is directory));
      paths = subst (λ rows. All IsPath (keys_of rows)) (sym (rows-grown e)) (All-keys-insert_entry path_cmp p e IsPath (rows_of kept) k.paths path);
      counts =
          subst (AreCounts (rows_of (insert_entry path_cmp room p (without_children e)))) (sym (numbers-grown e))
          (subst (λ rows. AreCounts rows (insert_entry path_cmp (cond (is_some (at (rows_of kept) p)) (numbers_of kept) (changed (is_path d) (λ n. n + 1) (numbers_of kept))) p 0)) (sym (rows-grown e))
          (counts-with_row (rows_of kept) (numbers_of kept) p d k.tree k.counts is e free));
    }

    -- one child less at the path above
    abbrev pub rest : List (AccountPath × KeptRow B)
    rest = remove_entry (is_path p) (changed (is_path d) lowered kept)

    pub rows-shrunk : rows_of rest ≡ without_row (rows_of kept) p
    rows-shrunk = remove-valued (λ row. row.entry) (is_path p) (changed (is_path d) lowered kept) ∙ ap (λ rows. without_row rows p) (same-valued (λ row. row.entry) lowered (λ row. refl) (is_path d) kept)

    numbers-shrunk : numbers_of rest ≡ remove_entry (is_path p) (changed (is_path d) (λ n. n - 1) (numbers_of kept))
    numbers-shrunk =
        remove-valued (λ row. row.children) (is_path p) (changed (is_path d) lowered kept)
        ∙ ap (remove_entry (is_path p)) (changed-valued (λ row. row.children) lowered (λ n. n - 1) (λ row. refl) (is_path d) kept)

    same_keys : keys_of (rows_of kept) ≡ keys_of (changed (is_path d) (λ n. n - 1) (numbers_of kept))
    same_keys = keys-valued (λ row. row.entry) kept ∙ sym (keys-valued (λ row. row.children) kept) ∙ sym (keys-changed (is_path d) (λ n. n - 1) (numbers_of kept))

    pub kept-shrunk : IsKept kept → parent_of p ≡ Some d → is_root p ≡ false → is_some (at (rows_of kept) p) ≡ true → length (children (rows_of kept) p) ≡ 0 → IsKept rest
    kept-shrunk k is below there none = record {
      tree = subst IsTree (sym rows-shrunk) (IsTree-without_row (rows_of kept) p k.tree below none);
      paths = subst (λ rows. All IsPath (keys_of rows)) (sym rows-shrunk) (All-map-remove_entry (is_path p) (λ e. e.0) IsPath (rows_of kept) k.paths);
      counts =
          subst (AreCounts (rows_of rest)) (sym numbers-shrunk)
          (subst (λ rows. AreCounts rows (remove_entry (is_path p) (changed (is_path d) (λ n. n - 1) (numbers_of kept)))) (sym rows-shrunk)
          (counts-without_row (rows_of kept) (numbers_of kept) p d k.tree k.counts is there (subst (IsStrictlySortedBy path_cmp) same_keys k.tree.ordered)));
    }

    -- the path above a row has a child
    some_child : parent_of p ≡ Some d → is_some (at (rows_of kept) p) ≡ true → (n : ℕ) → length (children (rows_of kept) d) ≡ n → 0 < n
    some_child is there zero e = let gone : at (rows_of kept) p ≡ None = childless (rows_of kept) d p e is in let lost = ap is_some gone in cc
    some_child is there (suc n) e = omega arith

    positive : (m : ℕ) (o : Option (KeptRow B)) → 0 < m → IfSome o (λ row. row.children ≡ m) → IfSome o (λ row. 0 < row.children)
    positive m None some counted = tt
    positive m (Some row) some counted = omega arith

    pub number-positive : IsKept kept → parent_of p ≡ Some d → is_some (at (rows_of kept) p) ≡ true → IfSome (lookup (is_path d) kept) (λ row. 0 < row.children)
    number-positive k is there = positive (length (children (rows_of kept) d)) (lookup (is_path d) kept) (some_child is there _ refl) (number-is k.counts d)
