-- A change in the map of one area is that change of all rows.
use Rattle.std.proofs.Common.{◌≡◌, ℕ, ◌<◌, ◌≤◌, Bool, true, false, cond, List, length, Option, Some, None, option_map, Result, Ok, Err, refl, sym, ap, subst, ◌∙◌, arith}
use Rattle.std.specs.Prelude.{is_some, IfSome, OnOk, OnErr}
use Rattle.std.specs.BTreeMap.{insert_entry}
use Rattle.std.specs.Map.{lookup, remove_entry}
use Rattle.mt_path.specs.AccountPath.{AccountPath, IsPath, parent_of}
use Rattle.mt_path.specs.PathOrder.{path_cmp}
use Rattle.mt_path.specs.declared.area.Area.{Area}
use Rattle.mt_path.specs.declared.area.Area.TheVariants.{Stor, Public, Jobs}
use Rattle.mt_types.specs.declared.object.Entry.{Entry}
use Rattle.mt_model.specs.Rows.{is_path, at, with_row, without_row, is_directory, children, remove_refusal}
use Rattle.mt_model.proofs.RowLaws.{remove-allowed}
use Rattle.mt_model.proofs.Children.{above, parent-above, some-not_root}
use Rattle.mt_tree.specs.declared.kept.KeptRow.{KeptRow}
use Rattle.mt_tree.specs.AreaRows.{changed, childless as without_children, is_key, joined, lowered, made_room, parts_above, parts_cmp, raised, rows_of, has_directory, IsKept}
use Rattle.mt_path.specs.Keys.{Parts}
use Rattle.std.specs.declared.alloc.AllocError.{AllocError}
use Rattle.mt_tree.proofs.ChildrenIn.{children-few}
use Rattle.mt_tree.proofs.Grown.{room, rest, rows-grown, kept-grown, rows-shrunk, kept-shrunk, number-is, number-positive}
use Rattle.mt_tree.proofs.Valued.{lookup-valued}
use Rattle.mt_tree.proofs.Joined.{Entries, path_in, part, with_part, lookup-joined, remove-joined, changed-joined, insert-joined}

module _ {X : Type 0} (s u j : Entries X) where
  pub lookup-with : (area : Area) (new : Entries X) (parts : Parts) → lookup (is_path (path_in area parts)) (with_part area s u j new) ≡ lookup (is_key parts) new
  lookup-with Stor new parts = lookup-joined new u j Stor parts
  lookup-with Public new parts = lookup-joined s new j Public parts
  lookup-with Jobs new parts = lookup-joined s u new Jobs parts

  insert-with : (area : Area) (new : Entries X) (k : Parts) (v : X) → insert_entry path_cmp (with_part area s u j new) (path_in area k) v ≡ with_part area s u j (insert_entry parts_cmp new k v)
  insert-with Stor new k v = insert-joined new u j Stor k v
  insert-with Public new k v = insert-joined s new j Public k v
  insert-with Jobs new k v = insert-joined s u new Jobs k v

  remove-with : (area : Area) (new : Entries X) (parts : Parts) → remove_entry (is_path (path_in area parts)) (with_part area s u j new) ≡ with_part area s u j (remove_entry (is_key parts) new)
  remove-with Stor new parts = remove-joined new u j Stor parts
  remove-with Public new parts = remove-joined s new j Public parts
  remove-with Jobs new parts = remove-joined s u new Jobs parts

  changed-with : (f : X → X) (area : Area) (new : Entries X) (parts : Parts) → changed (is_path (path_in area parts)) f (with_part area s u j new) ≡ with_part area s u j (changed (is_key parts) f new)
  changed-with f Stor new parts = changed-joined new u j f Stor parts
  changed-with f Public new parts = changed-joined s new j f Public parts
  changed-with f Jobs new parts = changed-joined s u new f Jobs parts

  pub same-with : (area : Area) → with_part area s u j (part area s u j) ≡ joined s u j
  same-with Stor = refl
  same-with Public = refl
  same-with Jobs = refl

  cond_with : (area : Area) (b : Bool) (one other : Entries X) → with_part area s u j (cond b one other) ≡ cond b (with_part area s u j one) (with_part area s u j other)
  cond_with area true one other = refl
  cond_with area false one other = refl

module _ {B : Type 0} (s u j : Entries (KeptRow B)) (area : Area) where
  abbrev all : List (AccountPath × KeptRow B)
  all = joined s u j

  abbrev own : Entries (KeptRow B)
  own = part area s u j

  module _ (k : Parts) (e : Entry B) where
    abbrev p : AccountPath
    p = path_in area k

    grown : with_part area s u j (insert_entry parts_cmp (made_room k own) k (without_children e)) ≡ insert_entry path_cmp (room all p (above p)) p (without_children e)
    grown =
        let raised_all : with_part area s u j (changed (is_key (parts_above k)) raised own) ≡ changed (is_path (above p)) raised all = sym (changed-with s u j raised area own (parts_above k)) ∙ ap (changed (is_path (above p)) raised) (same-with s u j area) in
        sym (insert-with s u j area (made_room k own) k (without_children e))
        ∙ ap (λ es. insert_entry path_cmp es p (without_children e))
        (cond_with s u j area (is_some (lookup (is_key k) own)) own (changed (is_key (parts_above k)) raised own)
        ∙ ap (λ b. cond b (with_part area s u j own) (with_part area s u j (changed (is_key (parts_above k)) raised own))) (ap is_some (sym (lookup-joined s u j area k)))
        ∙ ap (λ es. cond (is_some (lookup (is_path p) all)) es (with_part area s u j (changed (is_key (parts_above k)) raised own))) (same-with s u j area)
        ∙ ap (cond (is_some (lookup (is_path p) all)) all) raised_all)

  module _ (parts : Parts) where
    abbrev q : AccountPath
    q = path_in area parts

    shrunk : with_part area s u j (remove_entry (is_key parts) (changed (is_key (parts_above parts)) lowered own)) ≡ rest all q (above q)
    shrunk =
        sym (remove-with s u j area (changed (is_key (parts_above parts)) lowered own) parts)
        ∙ ap (remove_entry (is_path q)) (sym (changed-with s u j lowered area own (parts_above parts)) ∙ ap (changed (is_path (above q)) lowered) (same-with s u j area))

-- a path by its area and its components
pub path_is : (path : AccountPath) (area : Area) (parts : Parts) → area ≡ path.area → parts ≡ path.parts → path_in area parts ≡ path
path_is path area parts e f = λ i. record { area = e i; parts = f i }

-- an insertion into the map of an area, as all rows show it
module _ {B : Type 0} (s u j : Entries (KeptRow B)) (area : Area) (path : AccountPath) (e : Entry B) (k : Parts) (here : path_in area k ≡ path) (kept : IsKept (joined s u j)) where
  abbrev inserted : Entries (KeptRow B)
  inserted = insert_entry parts_cmp (made_room k (part area s u j)) k (without_children e)

  few : (o : Option (KeptRow B)) (m n : ℕ) → m ≤ n → IfSome o (λ row. row.children ≡ m) → IfSome o (λ row. row.children ≤ n)
  few None m n le counted = tt
  few (Some row) m n le counted = omega arith

  pub counted-few : (front : Parts) → front ≡ parts_above k → IfSome (lookup (is_key front) (part area s u j)) (λ row. row.children ≤ length (part area s u j))
  counted-few front is =
      let d = path_in area (parts_above k) in
      subst (λ o. IfSome o (λ row. row.children ≤ length (part area s u j))) (lookup-joined s u j area (parts_above k) ∙ ap (λ ps. lookup (is_key ps) (part area s u j)) (sym is))
      (few (lookup (is_path d) (joined s u j)) (length (children (rows_of (joined s u j)) d)) (length (part area s u j)) (children-few area (parts_above k) s u j) (number-is (joined s u j) kept.counts d))

  all_rows : rows_of (with_part area s u j inserted) ≡ with_row (rows_of (joined s u j)) path e
  all_rows =
      ap rows_of (grown s u j area k e)
      ∙ rows-grown (joined s u j) (path_in area k) (above (path_in area k)) e
      ∙ ap (λ p. with_row (rows_of (joined s u j)) p e) here

  -- what stands at the path
  pub stands : has_directory k (part area s u j) ≡ is_directory (at (rows_of (joined s u j)) path)
  stands =
      ap (λ o. is_directory (option_map (λ row. row.entry) o)) (sym (lookup-joined s u j area k) ∙ ap (λ p. lookup (is_path p) (joined s u j)) here)
      ∙ ap is_directory (sym (lookup-valued (λ row. row.entry) (is_path path) (joined s u j)))

  module _ (result : Result Bool AllocError) (new : Entries (KeptRow B)) where
    rows_case : (r : Result Bool AllocError) → OnOk r (new ≡ inserted) → OnOk r (rows_of (with_part area s u j new) ≡ with_row (rows_of (joined s u j)) path e)
    rows_case (Ok x) is = ap (λ es. rows_of (with_part area s u j es)) is ∙ all_rows
    rows_case (Err x) is = tt

    pub inserted-rows : (has_directory k (part area s u j) ≡ false → OnOk result (new ≡ inserted)) → is_directory (at (rows_of (joined s u j)) path) ≡ false → OnOk result (rows_of (with_part area s u j new) ≡ with_row (rows_of (joined s u j)) path e)
    inserted-rows put free = rows_case result (put (stands ∙ free))

    same_kept : new ≡ part area s u j → IsKept (with_part area s u j new)
    same_kept old = subst (λ es. IsKept (with_part area s u j es)) (sym old) (subst IsKept (sym (same-with s u j area)) kept)

    pub same-rows : new ≡ part area s u j → rows_of (with_part area s u j new) ≡ rows_of (joined s u j)
    same-rows old = ap (λ es. rows_of (with_part area s u j es)) old ∙ ap rows_of (same-with s u j area)

    err_case : (r : Result Bool AllocError) → OnErr r (new ≡ part area s u j) → OnErr r (rows_of (with_part area s u j new) ≡ rows_of (joined s u j))
    err_case (Ok x) old = tt
    err_case (Err x) old = same-rows old

    pub failed-rows : OnErr result (new ≡ part area s u j) → OnErr result (rows_of (with_part area s u j new) ≡ rows_of (joined s u j))
    failed-rows old = err_case result old

    all_kept : IsPath path → 0 < length path.parts → ((d : AccountPath) → parent_of path ≡ Some d → is_directory (at (rows_of (joined s u j)) d) ≡ true) → is_directory (at (rows_of (joined s u j)) path) ≡ false → IsKept (with_part area s u j inserted)
    all_kept is some parent free =
        subst IsKept (sym (grown s u j area k e))
        (subst (λ p. IsKept (insert_entry path_cmp (room (joined s u j) p (above p)) p (without_children e))) (sym here)
        (kept-grown (joined s u j) path (above path) e kept is (parent-above path some) (parent (above path) (parent-above path some)) free))

    kept_case : (r : Result Bool AllocError) → OnOk r (new ≡ inserted) → OnErr r (new ≡ part area s u j) → IsKept (with_part area s u j inserted) → IsKept (with_part area s u j new)
    kept_case (Ok x) is old more = subst (λ es. IsKept (with_part area s u j es)) (sym is) more
    kept_case (Err x) is old more = same_kept old

    pub inserted-kept : (has_directory k (part area s u j) ≡ false → OnOk result (new ≡ inserted)) → (has_directory k (part area s u j) ≡ true → new ≡ part area s u j) → OnErr result (new ≡ part area s u j)
        → IsPath path → 0 < length path.parts → ((d : AccountPath) → parent_of path ≡ Some d → is_directory (at (rows_of (joined s u j)) d) ≡ true) → IsKept (with_part area s u j new)
    inserted-kept put refused err is some parent = by (is_directory (at (rows_of (joined s u j)) path)) refl
      where
        by : (b : Bool) → is_directory (at (rows_of (joined s u j)) path) ≡ b → IsKept (with_part area s u j new)
        by true taken = same_kept (refused (stands ∙ taken))
        by false free = kept_case result (put (stands ∙ free)) err (all_kept is some parent free)

-- a removal from the map of an area
module _ {B : Type 0} (s u j : Entries (KeptRow B)) (area : Area) (path : AccountPath) (parts : Parts) (here : path_in area parts ≡ path) (kept : IsKept (joined s u j)) (allowed : remove_refusal (rows_of (joined s u j)) path ≡ None) where
  below : 0 < length path.parts
  below = some-not_root path (remove-allowed (rows_of (joined s u j)) path allowed).below

  above_is : path_in area (parts_above parts) ≡ above path
  above_is = ap above here

  pub counted-positive : (front : Parts) → front ≡ parts_above parts → IfSome (lookup (is_key front) (part area s u j)) (λ row. 0 < row.children)
  counted-positive front is =
      subst (λ o. IfSome o (λ row. 0 < row.children)) (ap (λ d. lookup (is_path d) (joined s u j)) (sym above_is) ∙ lookup-joined s u j area (parts_above parts) ∙ ap (λ ps. lookup (is_key ps) (part area s u j)) (sym is))
      (number-positive (joined s u j) path (above path) kept (parent-above path below) (remove-allowed (rows_of (joined s u j)) path allowed).there)

  module _ (new : Entries (KeptRow B)) (is : new ≡ remove_entry (is_key parts) (changed (is_key (parts_above parts)) lowered (part area s u j))) where
    all_rest : with_part area s u j new ≡ rest (joined s u j) path (above path)
    all_rest = ap (with_part area s u j) is ∙ shrunk s u j area parts ∙ ap (λ p. rest (joined s u j) p (above p)) here

    pub removed-rows : rows_of (with_part area s u j new) ≡ without_row (rows_of (joined s u j)) path
    removed-rows = ap rows_of all_rest ∙ rows-shrunk (joined s u j) path (above path)

    pub removed-kept : IsKept (with_part area s u j new)
    removed-kept =
        let may = remove-allowed (rows_of (joined s u j)) path allowed in
        subst IsKept (sym all_rest) (kept-shrunk (joined s u j) path (above path) kept (parent-above path below) may.below may.there may.childless)
