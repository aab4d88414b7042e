-- The children of a directory stand in the map of its area.
use Rattle.std.proofs.Common.{◌≡◌, ◌≤◌, Bool, true, false, cond, List, [], ◌∷◌, ◌++◌, length, nat_lt, Some, None, refl, sym, ap, ◌∙◌, arith, append-nil}
use Rattle.std.specs.List.{filter}
use Rattle.std.proofs.lemmas.List.{map-append}
use Rattle.mt_path.specs.AccountPath.{AccountPath}
use Rattle.mt_path.specs.declared.area.Area.{Area}
use Rattle.mt_path.specs.declared.area.Area.TheVariants.{Stor, Public, Jobs}
use Rattle.mt_types.specs.declared.object.Entry.{Entry}
use Rattle.mt_model.specs.Rows.{is_path, is_above, is_child, children}
use Rattle.mt_tree.specs.declared.kept.KeptRow.{KeptRow}
use Rattle.mt_tree.specs.AreaRows.{in_area, joined, parts_above, rows_of}
use Rattle.mt_path.specs.Keys.{Parts}
use Rattle.mt_tree.proofs.Appended.{filter-append, filter-none}
use Rattle.mt_tree.proofs.Joined.{Entries, path_in, part, all_in}
use Rattle.mt_tree.proofs.Valued.{valued}

-- a path has no child in another area
other_child : (a b : Area) (x : Parts) → ((z : Parts) → is_path (path_in a x) (path_in b z) ≡ false) → (y : Parts) → is_child (path_in a x) (path_in b y) ≡ false
other_child a b x other y = elim (nat_lt 0 (length y)) as (λ t. is_above (path_in a x) (cond t (Some (path_in b (parts_above y))) None) ≡ false) [ true ↦ other (parts_above y) | false ↦ refl ]

fewer : {A : Type 0} (p : A → Bool) (xs : List A) → length (filter p xs) ≤ length xs
fewer p [] = omega arith
fewer p (x ∷ xs) = elim (p x) as (λ b. length (cond b (x ∷ filter p xs) (filter p xs)) ≤ length (x ∷ xs)) [ true ↦ omega (arith, fewer p xs) | false ↦ omega (arith, fewer p xs) ]

module _ {B : Type 0} where
  rows-in : (area : Area) (es : Entries (KeptRow B)) → rows_of (in_area area es) ≡ in_area area (valued (λ row. row.entry) es)
  rows-in area [] = refl
  rows-in area (e ∷ es) = ap (λ l. (path_in area e.0, e.1.entry) ∷ l) (rows-in area es)

  pub rows-joined : (s u j : Entries (KeptRow B)) → rows_of (joined s u j) ≡ joined (valued (λ row. row.entry) s) (valued (λ row. row.entry) u) (valued (λ row. row.entry) j)
  rows-joined s u j =
      map-append (λ k. (k.0, k.1.entry)) (in_area Stor s) (in_area Public u ++ in_area Jobs j)
      ∙ ap (λ l. rows_of (in_area Stor s) ++ l) (map-append (λ k. (k.0, k.1.entry)) (in_area Public u) (in_area Jobs j))
      ∙ ap (λ l. l ++ (rows_of (in_area Public u) ++ rows_of (in_area Jobs j))) (rows-in Stor s)
      ∙ ap (λ l. in_area Stor (valued (λ row. row.entry) s) ++ (l ++ rows_of (in_area Jobs j))) (rows-in Public u)
      ∙ ap (λ l. in_area Stor (valued (λ row. row.entry) s) ++ (in_area Public (valued (λ row. row.entry) u) ++ l)) (rows-in Jobs j)

  no_child : (a b : Area) (x : Parts) (es : Entries (Entry B)) → ((z : Parts) → is_path (path_in a x) (path_in b z) ≡ false) → filter (λ r. is_child (path_in a x) r.0) (in_area b es) ≡ []
  no_child a b x es other = filter-none (is_child (path_in a x)) (in_area b es) (all_in (λ k. is_child (path_in a x) k ≡ false) b (other_child a b x other) es)

  in_three : (s u j : Entries (Entry B)) (d : AccountPath) → children (joined s u j) d ≡ children (in_area Stor s) d ++ (children (in_area Public u) d ++ children (in_area Jobs j) d)
  in_three s u j d =
      filter-append (λ r. is_child d r.0) (in_area Stor s) (in_area Public u ++ in_area Jobs j)
      ∙ ap (λ l. children (in_area Stor s) d ++ l) (filter-append (λ r. is_child d r.0) (in_area Public u) (in_area Jobs j))

  one_area : (area : Area) (x : Parts) (s u j : Entries (Entry B)) → children (joined s u j) (path_in area x) ≡ children (in_area area (part area s u j)) (path_in area x)
  one_area Stor x s u j =
      let d = path_in Stor x in
      in_three s u j d
      ∙ ap (λ l. children (in_area Stor s) d ++ (l ++ children (in_area Jobs j) d)) (no_child Stor Public x u (λ z. refl))
      ∙ ap (λ l. children (in_area Stor s) d ++ l) (no_child Stor Jobs x j (λ z. refl))
      ∙ append-nil (children (in_area Stor s) d)
  one_area Public x s u j =
      let d = path_in Public x in
      in_three s u j d
      ∙ ap (λ l. l ++ (children (in_area Public u) d ++ children (in_area Jobs j) d)) (no_child Public Stor x s (λ z. refl))
      ∙ ap (λ l. children (in_area Public u) d ++ l) (no_child Public Jobs x j (λ z. refl))
      ∙ append-nil (children (in_area Public u) d)
  one_area Jobs x s u j =
      let d = path_in Jobs x in
      in_three s u j d
      ∙ ap (λ l. l ++ (children (in_area Public u) d ++ children (in_area Jobs j) d)) (no_child Jobs Stor x s (λ z. refl))
      ∙ ap (λ l. l ++ children (in_area Jobs j) d) (no_child Jobs Public x u (λ z. refl))

  part_valued : (area : Area) (s u j : Entries (KeptRow B)) → part area (valued (λ row. row.entry) s) (valued (λ row. row.entry) u) (valued (λ row. row.entry) j) ≡ valued (λ row. row.entry) (part area s u j)
  part_valued Stor s u j = refl
  part_valued Public s u j = refl
  part_valued Jobs s u j = refl

  pub children-joined : (area : Area) (x : Parts) (s u j : Entries (KeptRow B)) → children (rows_of (joined s u j)) (path_in area x) ≡ children (rows_of (in_area area (part area s u j))) (path_in area x)
  children-joined area x s u j =
      let d = path_in area x in
      ap (λ rows. children rows d) (rows-joined s u j)
      ∙ one_area area x (valued (λ row. row.entry) s) (valued (λ row. row.entry) u) (valued (λ row. row.entry) j)
      ∙ ap (λ es. children (in_area area es) d) (part_valued area s u j)
      ∙ ap (λ rows. children rows d) (sym (rows-in area (part area s u j)))

  length-rows : (area : Area) (es : Entries (KeptRow B)) → length (rows_of (in_area area es)) ≡ length es
  length-rows area [] = refl
  length-rows area (e ∷ es) = omega (arith, length-rows area es)

  -- a map has at least as many rows as one of its directories has children
  pub children-few : (area : Area) (x : Parts) (s u j : Entries (KeptRow B)) → length (children (rows_of (joined s u j)) (path_in area x)) ≤ length (part area s u j)
  children-few area x s u j =
      omega (
        arith,
        ap length (children-joined area x s u j),
        fewer (λ r. is_child (path_in area x) r.0) (rows_of (in_area area (part area s u j))),
        length-rows area (part area s u j),
      )
