-- An operation at a path of the three areas together is the operation on the rows of its area.
use Rattle.std.proofs.Common.{◌≡◌, Bool, true, false, cond, List, [], ◌∷◌, ◌++◌, Some, refl, sym, ap, ◌∙◌}
use Rattle.std.specs.BTreeMap.{insert_entry}
use Rattle.std.specs.List.{AllByRecursion}
use Rattle.std.specs.Map.{lookup, remove_entry, keys_of}
use Rattle.std.specs.Ordering.{match_ordering, is_eq}
use Rattle.std.specs.declared.cmp.Ordering.{Ordering}
use Rattle.std.specs.declared.cmp.Ordering.TheVariants.{Less, Equal, Greater}
use Rattle.mt_path.specs.AccountPath.{AccountPath}
use Rattle.mt_path.specs.PathOrder.{path_cmp}
use Rattle.mt_path.specs.declared.area.Area.{Area}
use Rattle.mt_path.specs.declared.area.Area.TheVariants.{Stor, Public, Jobs}
use Rattle.mt_model.specs.Rows.{is_path}
use Rattle.mt_tree.specs.AreaRows.{parts_cmp, is_key, in_area, joined, changed}
use Rattle.mt_path.specs.Keys.{Parts}
use Rattle.mt_tree.proofs.Appended.{all_append, lookup-back, lookup-front, remove-back, remove-front, changed-back, changed-front, insert-back, insert-front}

abbrev pub path_in : Area → Parts → AccountPath
path_in area parts = record { area = area; parts = parts }

-- within an area the components decide
pub own_cmp : (area : Area) (x y : Parts) → path_cmp (path_in area x) (path_in area y) ≡ parts_cmp x y
own_cmp Stor x y = refl
own_cmp Public x y = refl
own_cmp Jobs x y = refl

pub own_path : (area : Area) (x y : Parts) → is_path (path_in area x) (path_in area y) ≡ is_eq (parts_cmp x y)
own_path area x y = ap is_eq (own_cmp area x y)

abbrev pub Entries : Type 0 → Type 0
Entries X = List (Parts × X)

module _ {X : Type 0} where
  pub all_in : (Q : AccountPath → Type 0) (area : Area) → ((y : Parts) → Q (path_in area y)) → (es : Entries X) → AllByRecursion Q (keys_of (in_area area es))
  all_in Q area each [] = tt
  all_in Q area each (e ∷ es) = (each e.0, all_in Q area each es)

  lookup-in : (area : Area) (parts : Parts) (es : Entries X) → lookup (is_path (path_in area parts)) (in_area area es) ≡ lookup (is_key parts) es
  lookup-in area parts [] = refl
  lookup-in area parts (e ∷ es) = ap (λ b. cond b (Some e.1) (lookup (is_path (path_in area parts)) (in_area area es))) (own_path area parts e.0) ∙ ap (cond (is_key parts e.0) (Some e.1)) (lookup-in area parts es)

  in_cond : (area : Area) (b : Bool) (xs ys : Entries X) → in_area area (cond b xs ys) ≡ cond b (in_area area xs) (in_area area ys)
  in_cond area true xs ys = refl
  in_cond area false xs ys = refl

  remove-in : (area : Area) (parts : Parts) (es : Entries X) → remove_entry (is_path (path_in area parts)) (in_area area es) ≡ in_area area (remove_entry (is_key parts) es)
  remove-in area parts [] = refl
  remove-in area parts (e ∷ es) =
      ap (λ b. cond b (in_area area es) ((path_in area e.0, e.1) ∷ remove_entry (is_path (path_in area parts)) (in_area area es))) (own_path area parts e.0)
      ∙ ap (λ l. cond (is_key parts e.0) (in_area area es) ((path_in area e.0, e.1) ∷ l)) (remove-in area parts es)
      ∙ sym (in_cond area (is_key parts e.0) es (e ∷ remove_entry (is_key parts) es))

  changed-in : (f : X → X) (area : Area) (parts : Parts) (es : Entries X) → changed (is_path (path_in area parts)) f (in_area area es) ≡ in_area area (changed (is_key parts) f es)
  changed-in f area parts [] = refl
  changed-in f area parts (e ∷ es) =
      ap (λ b. cond b ((path_in area e.0, f e.1) ∷ in_area area es) ((path_in area e.0, e.1) ∷ changed (is_path (path_in area parts)) f (in_area area es))) (own_path area parts e.0)
      ∙ ap (λ l. cond (is_key parts e.0) ((path_in area e.0, f e.1) ∷ in_area area es) ((path_in area e.0, e.1) ∷ l)) (changed-in f area parts es)
      ∙ sym (in_cond area (is_key parts e.0) ((e.0, f e.1) ∷ es) (e ∷ changed (is_key parts) f es))

  in_match : (area : Area) (r : Ordering) (a b c : Entries X) → in_area area (match_ordering r a b c) ≡ match_ordering r (in_area area a) (in_area area b) (in_area area c)
  in_match area Less a b c = refl
  in_match area Equal a b c = refl
  in_match area Greater a b c = refl

  insert-in : (area : Area) (k : Parts) (v : X) (es : Entries X) → insert_entry path_cmp (in_area area es) (path_in area k) v ≡ in_area area (insert_entry parts_cmp es k v)
  insert-in area k v [] = refl
  insert-in area k v (e ∷ es) =
      ap (λ r. match_ordering r ((path_in area k, v) ∷ in_area area (e ∷ es)) ((path_in area e.0, v) ∷ in_area area es) ((path_in area e.0, e.1) ∷ insert_entry path_cmp (in_area area es) (path_in area k) v)) (own_cmp area k e.0)
      ∙ ap (λ l. match_ordering (parts_cmp k e.0) ((path_in area k, v) ∷ in_area area (e ∷ es)) ((path_in area e.0, v) ∷ in_area area es) ((path_in area e.0, e.1) ∷ l)) (insert-in area k v es)
      ∙ sym (in_match area (parts_cmp k e.0) ((k, v) ∷ e ∷ es) ((e.0, v) ∷ es) (e ∷ insert_entry parts_cmp es k v))

  -- the map of an area, and the three with another in its place
  abbrev pub part : Area → Entries X → Entries X → Entries X → Entries X
  part Stor s u j = s
  part Public s u j = u
  part Jobs s u j = j

  abbrev pub with_part : Area → Entries X → Entries X → Entries X → Entries X → List (AccountPath × X)
  with_part Stor s u j new = joined new u j
  with_part Public s u j new = joined s new j
  with_part Jobs s u j new = joined s u new

  module _ (s u j : Entries X) where
    pub lookup-joined : (area : Area) (parts : Parts) → lookup (is_path (path_in area parts)) (joined s u j) ≡ lookup (is_key parts) (part area s u j)
    lookup-joined Stor parts =
        let p = path_in Stor parts in
        lookup-front (is_path p) (in_area Stor s) (in_area Public u ++ in_area Jobs j) (all_append (λ k. is_path p k ≡ false) (in_area Public u) (in_area Jobs j) (all_in _ Public (λ y. refl) u) (all_in _ Jobs (λ y. refl) j))
        ∙ lookup-in Stor parts s
    lookup-joined Public parts =
        let p = path_in Public parts in
        lookup-back (is_path p) (in_area Stor s) (in_area Public u ++ in_area Jobs j) (all_in _ Stor (λ y. refl) s)
        ∙ lookup-front (is_path p) (in_area Public u) (in_area Jobs j) (all_in _ Jobs (λ y. refl) j)
        ∙ lookup-in Public parts u
    lookup-joined Jobs parts =
        let p = path_in Jobs parts in
        lookup-back (is_path p) (in_area Stor s) (in_area Public u ++ in_area Jobs j) (all_in _ Stor (λ y. refl) s)
        ∙ lookup-back (is_path p) (in_area Public u) (in_area Jobs j) (all_in _ Public (λ y. refl) u)
        ∙ lookup-in Jobs parts j

    pub remove-joined : (area : Area) (parts : Parts) → remove_entry (is_path (path_in area parts)) (joined s u j) ≡ with_part area s u j (remove_entry (is_key parts) (part area s u j))
    remove-joined Stor parts =
        let p = path_in Stor parts in
        remove-front (is_path p) (in_area Stor s) (in_area Public u ++ in_area Jobs j) (all_append (λ k. is_path p k ≡ false) (in_area Public u) (in_area Jobs j) (all_in _ Public (λ y. refl) u) (all_in _ Jobs (λ y. refl) j))
        ∙ ap (λ l. l ++ (in_area Public u ++ in_area Jobs j)) (remove-in Stor parts s)
    remove-joined Public parts =
        let p = path_in Public parts in
        remove-back (is_path p) (in_area Stor s) (in_area Public u ++ in_area Jobs j) (all_in _ Stor (λ y. refl) s)
        ∙ ap (λ l. in_area Stor s ++ l) (remove-front (is_path p) (in_area Public u) (in_area Jobs j) (all_in _ Jobs (λ y. refl) j) ∙ ap (λ l. l ++ in_area Jobs j) (remove-in Public parts u))
    remove-joined Jobs parts =
        let p = path_in Jobs parts in
        remove-back (is_path p) (in_area Stor s) (in_area Public u ++ in_area Jobs j) (all_in _ Stor (λ y. refl) s)
        ∙ ap (λ l. in_area Stor s ++ l) (remove-back (is_path p) (in_area Public u) (in_area Jobs j) (all_in _ Public (λ y. refl) u) ∙ ap (λ l. in_area Public u ++ l) (remove-in Jobs parts j))

    pub changed-joined : (f : X → X) (area : Area) (parts : Parts) → changed (is_path (path_in area parts)) f (joined s u j) ≡ with_part area s u j (changed (is_key parts) f (part area s u j))
    changed-joined f Stor parts =
        let p = path_in Stor parts in
        changed-front (is_path p) f (in_area Stor s) (in_area Public u ++ in_area Jobs j) (all_append (λ k. is_path p k ≡ false) (in_area Public u) (in_area Jobs j) (all_in _ Public (λ y. refl) u) (all_in _ Jobs (λ y. refl) j))
        ∙ ap (λ l. l ++ (in_area Public u ++ in_area Jobs j)) (changed-in f Stor parts s)
    changed-joined f Public parts =
        let p = path_in Public parts in
        changed-back (is_path p) f (in_area Stor s) (in_area Public u ++ in_area Jobs j) (all_in _ Stor (λ y. refl) s)
        ∙ ap (λ l. in_area Stor s ++ l) (changed-front (is_path p) f (in_area Public u) (in_area Jobs j) (all_in _ Jobs (λ y. refl) j) ∙ ap (λ l. l ++ in_area Jobs j) (changed-in f Public parts u))
    changed-joined f Jobs parts =
        let p = path_in Jobs parts in
        changed-back (is_path p) f (in_area Stor s) (in_area Public u ++ in_area Jobs j) (all_in _ Stor (λ y. refl) s)
        ∙ ap (λ l. in_area Stor s ++ l) (changed-back (is_path p) f (in_area Public u) (in_area Jobs j) (all_in _ Public (λ y. refl) u) ∙ ap (λ l. in_area Public u ++ l) (changed-in f Jobs parts j))

    pub insert-joined : (area : Area) (k : Parts) (v : X) → insert_entry path_cmp (joined s u j) (path_in area k) v ≡ with_part area s u j (insert_entry parts_cmp (part area s u j) k v)
    insert-joined Stor k v =
        let p = path_in Stor k in
        insert-front path_cmp p v (in_area Stor s) (in_area Public u ++ in_area Jobs j) (all_append (λ y. path_cmp p y ≡ Less) (in_area Public u) (in_area Jobs j) (all_in _ Public (λ y. refl) u) (all_in _ Jobs (λ y. refl) j))
        ∙ ap (λ l. l ++ (in_area Public u ++ in_area Jobs j)) (insert-in Stor k v s)
    insert-joined Public k v =
        let p = path_in Public k in
        insert-back path_cmp p v (in_area Stor s) (in_area Public u ++ in_area Jobs j) (all_in _ Stor (λ y. refl) s)
        ∙ ap (λ l. in_area Stor s ++ l) (insert-front path_cmp p v (in_area Public u) (in_area Jobs j) (all_in _ Jobs (λ y. refl) j) ∙ ap (λ l. l ++ in_area Jobs j) (insert-in Public k v u))
    insert-joined Jobs k v =
        let p = path_in Jobs k in
        insert-back path_cmp p v (in_area Stor s) (in_area Public u ++ in_area Jobs j) (all_in _ Stor (λ y. refl) s)
        ∙ ap (λ l. in_area Stor s ++ l) (insert-back path_cmp p v (in_area Public u) (in_area Jobs j) (all_in _ Public (λ y. refl) u) ∙ ap (λ l. in_area Public u ++ l) (insert-in Jobs k v j))
