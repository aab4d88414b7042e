-- The rows of one area by their components, and what a page of them shows.
use Rattle.std.proofs.Common.{◌≡◌, ℕ, ◌+◌, ◌-◌, ◌==◌, Bool, true, false, cond, List, [], ◌∷◌, ◌++◌, map, length, take, Some, refl, sym, ap, subst, ◌∙◌, arith, zero, suc, eq-eqb}
use Rattle.std.specs.Prelude.{All}
use Rattle.std.specs.Cmp.{both_ways, unsigned_Decides}
use Rattle.std.specs.List.{filter, AllByRecursion}
use Rattle.std.specs.Map.{keys_of}
use Rattle.std.proofs.lemmas.List.{map-append}
use Rattle.std.proofs.lemmas.List.Elements.{All-from_recursion, recursion_from_All}
use Rattle.mt_path.specs.AccountPath.{AccountPath, IsPath}
use Rattle.mt_path.specs.declared.area.Area.{Area}
use Rattle.mt_path.specs.declared.area.Area.TheVariants.{Stor, Public, Jobs}
use Rattle.mt_types.specs.declared.object.Row.{Row}
use Rattle.mt_model.specs.Listing.{is_from, listing}
use Rattle.mt_model.specs.Rows.{Rows, children, is_child, row_of}
use Rattle.mt_model.proofs.Children.{above-parent, parent-above, length-above}
use Rattle.mt_model.proofs.RowLaws.{parent-is_child, is_child-parent}
use Rattle.mt_tree.specs.declared.kept.KeptRow.{KeptRow}
use Rattle.mt_tree.specs.AreaRows.{in_area, joined, rows_of}
use Rattle.mt_path.specs.Keys.{Parts}
use Rattle.mt_tree.specs.Walk.{below_by_one, is_from_name, is_one_below, last_of, lent_row, listed_row, page_of, shown}
use Rattle.mt_tree.proofs.Intervals.{and_first, and_second, both_true, parts_decide}
use Rattle.mt_tree.proofs.Joined.{Entries, path_in, part}

-- a path is one below another in the same area where its components are
child_agrees : (area : Area) (d q : Parts) → is_child (path_in area d) (path_in area q) ≡ is_one_below d q
child_agrees area d q =
    both_ways (is_child (path_in area d) (path_in area q)) (is_one_below d q)
    (λ child.
    let parent = above-parent (path_in area q) (path_in area d) (parent-is_child (path_in area d) (path_in area q) child) in
    let front : d ≡ take (length q - 1) q = ap (λ p. p.parts) parent.is in
    let long : length d + 1 ≡ length q = ap (λ p. length p + 1) front ∙ length-above (path_in area q) parent.some in
    let last : length d ≡ length q - 1 = omega (arith, long) in
    both_true (length q == length d + 1) _ (eq-eqb (length q) (length d + 1) (sym long)) ((parts_decide (take (length d) q) d).1 (ap (λ n. take n q) last ∙ sym front)))
    (λ one.
    let long : length q ≡ length d + 1 = (unsigned_Decides (length q) (length d + 1)).0 (and_first (length q == length d + 1) _ one) in
    let front : take (length d) q ≡ d = (parts_decide (take (length d) q) d).0 (and_second (length q == length d + 1) _ one) in
    let last : length q - 1 ≡ length d = omega (arith, long) in
    is_child-parent (path_in area d) (path_in area q) (parent-above (path_in area q) (omega (arith, long)) ∙ ap (λ parts. Some (path_in area parts)) (ap (λ n. take n q) last ∙ front)))

module _ {B : Type 0} (area : Area) where
  -- a row as a copy shows it
  abbrev pub listed : Parts × KeptRow B → Row B
  listed r = shown area r.0 r.1.entry

  abbrev placed : List (Parts × KeptRow B) → Rows B
  placed rows = map (λ r. (path_in area r.0, r.1.entry)) rows

  placed-rows : (es : Entries (KeptRow B)) → rows_of (in_area area es) ≡ placed es
  placed-rows [] = refl
  placed-rows (e ∷ es) = ap (λ l. (path_in area e.0, e.1.entry) ∷ l) (placed-rows es)

  placed_cond : (b : Bool) (xs ys : List (Parts × KeptRow B)) → placed (cond b xs ys) ≡ cond b (placed xs) (placed ys)
  placed_cond true xs ys = refl
  placed_cond false xs ys = refl

  placed_filter : (p : AccountPath → Bool) (q : Parts → Bool) → ((x : Parts) → p (path_in area x) ≡ q x) → (rows : List (Parts × KeptRow B)) → filter (λ r. p r.0) (placed rows) ≡ placed (filter (λ r. q r.0) rows)
  placed_filter p q agree [] = refl
  placed_filter p q agree (r ∷ rows) =
      ap (λ b. cond b ((path_in area r.0, r.1.entry) ∷ filter (λ x. p x.0) (placed rows)) (filter (λ x. p x.0) (placed rows))) (agree r.0)
      ∙ ap (λ l. cond (q r.0) ((path_in area r.0, r.1.entry) ∷ l) l) (placed_filter p q agree rows)
      ∙ sym (placed_cond (q r.0) (r ∷ filter (λ x. q x.0) rows) (filter (λ x. q x.0) rows))

  placed_take : (n : ℕ) (rows : List (Parts × KeptRow B)) → take n (placed rows) ≡ placed (take n rows)
  placed_take zero rows = refl
  placed_take (suc n) [] = refl
  placed_take (suc n) (r ∷ rows) = ap (λ l. (path_in area r.0, r.1.entry) ∷ l) (placed_take n rows)

  rows_shown : (rows : List (Parts × KeptRow B)) → map row_of (placed rows) ≡ map listed rows
  rows_shown [] = refl
  rows_shown (r ∷ rows) = ap (λ l. listed r ∷ l) (rows_shown rows)

  pub take-shown : (n : ℕ) (es : Entries (KeptRow B)) → map listed (take n es) ≡ map row_of (take n (rows_of (in_area area es)))
  take-shown n es = sym (ap (λ rows. map row_of (take n rows)) (placed-rows es) ∙ ap (map row_of) (placed_take n es) ∙ rows_shown (take n es))

  rows_named : (rows : List (Parts × KeptRow B)) → map lent_row rows ≡ map listed_row (placed rows)
  rows_named [] = refl
  rows_named (r ∷ rows) = ap (λ l. (last_of r.0, r.1.entry) ∷ l) (rows_named rows)

  -- a page of a directory, by the components
  pub page-shown : (es : Entries (KeptRow B)) (d : Parts) (m : List ℕ) (limit : ℕ) → map lent_row (page_of es d m limit) ≡ map listed_row (listing (rows_of (in_area area es)) (path_in area d) m limit)
  page-shown es d m limit =
      rows_named (page_of es d m limit)
      ∙ ap (map listed_row) (sym (
      ap (λ rows. take limit (filter (λ r. is_from m r.0) (children rows (path_in area d)))) (placed-rows es)
      ∙ ap (λ rows. take limit (filter (λ r. is_from m r.0) rows)) (placed_filter (is_child (path_in area d)) (is_one_below d) (child_agrees area d) es)
      ∙ ap (take limit) (placed_filter (is_from m) (is_from_name m) (λ x. refl) (below_by_one es d))
      ∙ placed_take limit (filter (λ r. is_from_name m r.0) (below_by_one es d))
      ))

  each_path : (es : Entries (KeptRow B)) → AllByRecursion IsPath (keys_of (rows_of (in_area area es))) → AllByRecursion (λ q. IsPath (path_in area q)) (keys_of es)
  each_path [] all = tt
  each_path (e ∷ es) all = (all.0, each_path es all.1)

  -- the components of each row are those of a path
  pub paths-seen : (es : Entries (KeptRow B)) → All IsPath (keys_of (rows_of (in_area area es))) → AllByRecursion (λ q. IsPath (path_in area q)) (keys_of es)
  paths-seen es all = each_path es (recursion_from_All IsPath (keys_of (rows_of (in_area area es))) all)

module _ {B : Type 0} where
  all_front : (xs ys : Rows B) → AllByRecursion IsPath (keys_of (xs ++ ys)) → AllByRecursion IsPath (keys_of xs) × AllByRecursion IsPath (keys_of ys)
  all_front [] ys all = (tt, all)
  all_front (x ∷ xs) ys all = let rest = all_front xs ys all.1 in ((all.0, rest.0), rest.1)

  part_case : (area : Area) (s u j : Entries (KeptRow B)) → AllByRecursion IsPath (keys_of (rows_of (joined s u j))) → AllByRecursion IsPath (keys_of (rows_of (in_area area (part area s u j))))
  part_case area s u j all =
      let first = all_front (rows_of (in_area Stor s)) (rows_of (in_area Public u ++ in_area Jobs j)) (subst (λ rows. AllByRecursion IsPath (keys_of rows)) (map-append (λ k. (k.0, k.1.entry)) (in_area Stor s) (in_area Public u ++ in_area Jobs j)) all) in
      let second = all_front (rows_of (in_area Public u)) (rows_of (in_area Jobs j)) (subst (λ rows. AllByRecursion IsPath (keys_of rows)) (map-append (λ k. (k.0, k.1.entry)) (in_area Public u) (in_area Jobs j)) first.1) in
      elim area as (λ a. AllByRecursion IsPath (keys_of (rows_of (in_area a (part a s u j))))) [ Stor ↦ first.0 | Public ↦ second.0 | Jobs ↦ second.1 ]

  -- the paths of one area's map
  pub paths-part : (area : Area) (s u j : Entries (KeptRow B)) → All IsPath (keys_of (rows_of (joined s u j))) → All IsPath (keys_of (rows_of (in_area area (part area s u j))))
  paths-part area s u j all = All-from_recursion IsPath (keys_of (rows_of (in_area area (part area s u j)))) (part_case area s u j (recursion_from_All IsPath (keys_of (rows_of (joined s u j))) all))
