-- Rows over other bodies: the same refusals, and the same changes.
use Rattle.std.proofs.Common.{◌≡◌, ℕ, ◌==◌, Bool, not, cond, List, [], ◌∷◌, map, length, take, Option, Some, None, refl, sym, ap, ◌∙◌}
use Rattle.std.specs.Prelude.{is_some}
use Rattle.std.specs.BTreeMap.{insert_entry}
use Rattle.std.specs.List.{filter}
use Rattle.std.specs.Map.{lookup, remove_entry}
use Rattle.std.specs.Option.{option_map}
use Rattle.std.specs.Ordering.{match_ordering}
use Rattle.std.specs.declared.cmp.Ordering.{Ordering}
use Rattle.std.specs.declared.cmp.Ordering.TheVariants.{Less, Equal, Greater}
use Rattle.mt_path.specs.AccountPath.{AccountPath, parent_of}
use Rattle.mt_path.specs.PathOrder.{path_cmp}
use Rattle.mt_types.specs.Values.{entry_with, object_with}
use Rattle.mt_types.specs.declared.object.Entry.{Entry}
use Rattle.mt_types.specs.declared.object.Entry.TheVariants as entry
use Rattle.mt_types.specs.declared.refusal.Refusal.TheVariants as refusal
use Rattle.mt_model.specs.Bodies.{rows_with, pair_with}
use Rattle.mt_model.specs.Listing.{is_from, listing, result_set_size}
use Rattle.mt_model.specs.Rows.{Rows, at, with_row, without_row, is_directory, is_path, is_child, is_root, object_in, object_at, children, directory_refusal, above_refusal, parent_refusal, put_refusal, make_directory_refusal, remove_refusal, source_refusal, link_refusal, first_refusal, refuse_if}
use Rattle.mt_model.proofs.Maps.{cond_ap, filter-map, length-map, take-map}

module _ {K X Y : Type 0} (g : X → Y) where
  -- entries with other values
  abbrev on : List (K × X) → List (K × Y)
  on es = map (λ e. (e.0, g e.1)) es

  lookup-on : (test : K → Bool) (es : List (K × X)) → lookup test (on es) ≡ option_map g (lookup test es)
  lookup-on test [] = refl
  lookup-on test (e ∷ es) = ap (cond (test e.0) (Some (g e.1))) (lookup-on test es) ∙ sym (cond_ap (option_map g) (test e.0) (Some e.1) (lookup test es))

  remove-on : (test : K → Bool) (es : List (K × X)) → remove_entry test (on es) ≡ on (remove_entry test es)
  remove-on test [] = refl
  remove-on test (e ∷ es) = ap (λ l. cond (test e.0) (on es) ((e.0, g e.1) ∷ l)) (remove-on test es) ∙ sym (cond_ap on (test e.0) es (e ∷ remove_entry test es))

  match_ap : (r : Ordering) (a b c : List (K × X)) → on (match_ordering r a b c) ≡ match_ordering r (on a) (on b) (on c)
  match_ap Less a b c = refl
  match_ap Equal a b c = refl
  match_ap Greater a b c = refl

  insert-on : (R : K → K → Ordering) (es : List (K × X)) (k : K) (v : X) → insert_entry R (on es) k (g v) ≡ on (insert_entry R es k v)
  insert-on R [] k v = refl
  insert-on R (e ∷ es) k v =
      ap (λ l. match_ordering (R k e.0) ((k, g v) ∷ on (e ∷ es)) ((e.0, g v) ∷ on es) ((e.0, g e.1) ∷ l)) (insert-on R es k v)
      ∙ sym (match_ap (R k e.0) ((k, v) ∷ e ∷ es) ((e.0, v) ∷ es) (e ∷ insert_entry R es k v))

pub is_some-map : {X Y : Type 0} (g : X → Y) (o : Option X) → is_some (option_map g o) ≡ is_some o
is_some-map g None = refl
is_some-map g (Some x) = refl

module _ {A B : Type 0} (f : A → B) where
  pub at-with : (rows : Rows A) (p : AccountPath) → at (rows_with f rows) p ≡ option_map (entry_with f) (at rows p)
  at-with rows p = lookup-on (entry_with f) (is_path p) rows

  pub with_row-with : (rows : Rows A) (p : AccountPath) (e : Entry A) → with_row (rows_with f rows) p (entry_with f e) ≡ rows_with f (with_row rows p e)
  with_row-with rows p e = insert-on (entry_with f) path_cmp rows p e

  pub without_row-with : (rows : Rows A) (p : AccountPath) → without_row (rows_with f rows) p ≡ rows_with f (without_row rows p)
  without_row-with rows p = remove-on (entry_with f) (is_path p) rows

  directory_cases : (o : Option (Entry A)) → is_directory (option_map (entry_with f) o) ≡ is_directory o
  directory_cases None = refl
  directory_cases (Some (entry.Directory m)) = refl
  directory_cases (Some (entry.Object o)) = refl

  object_cases : (o : Option (Entry A)) → object_in (option_map (entry_with f) o) ≡ option_map (object_with f) (object_in o)
  object_cases None = refl
  object_cases (Some (entry.Directory m)) = refl
  object_cases (Some (entry.Object o)) = refl

  pub is_directory-with : (rows : Rows A) (p : AccountPath) → is_directory (at (rows_with f rows) p) ≡ is_directory (at rows p)
  is_directory-with rows p = ap is_directory (at-with rows p) ∙ directory_cases (at rows p)

  pub object_at-with : (rows : Rows A) (p : AccountPath) → object_at (rows_with f rows) p ≡ option_map (object_with f) (object_at rows p)
  object_at-with rows p = ap object_in (at-with rows p) ∙ object_cases (at rows p)

  pub is_there-with : (rows : Rows A) (p : AccountPath) → is_some (at (rows_with f rows) p) ≡ is_some (at rows p)
  is_there-with rows p = ap is_some (at-with rows p) ∙ is_some-map (entry_with f) (at rows p)

  pub children-with : (rows : Rows A) (d : AccountPath) → children (rows_with f rows) d ≡ rows_with f (children rows d)
  children-with rows d = filter-map (pair_with f) (λ r. is_child d r.0) rows

  pub result_set_size-with : (rows : Rows A) (d : AccountPath) → result_set_size (rows_with f rows) d ≡ result_set_size rows d
  result_set_size-with rows d = ap length (children-with rows d) ∙ length-map (pair_with f) (children rows d)

  pub listing-with : (rows : Rows A) (d : AccountPath) (marker : List ℕ) (limit : ℕ) → listing (rows_with f rows) d marker limit ≡ rows_with f (listing rows d marker limit)
  listing-with rows d marker limit =
      ap (λ rs. take limit (filter (λ r. is_from marker r.0) rs)) (children-with rows d)
      ∙ ap (take limit) (filter-map (pair_with f) (λ r. is_from marker r.0) (children rows d))
      ∙ take-map (pair_with f) limit (filter (λ r. is_from marker r.0) (children rows d))

  directory_refusal_cases : (o : Option (Entry A)) → directory_refusal (option_map (entry_with f) o) ≡ directory_refusal o
  directory_refusal_cases None = refl
  directory_refusal_cases (Some (entry.Directory m)) = refl
  directory_refusal_cases (Some (entry.Object o)) = refl

  above-with : (rows : Rows A) (o : Option AccountPath) → above_refusal (rows_with f rows) o ≡ above_refusal rows o
  above-with rows None = refl
  above-with rows (Some d) = ap directory_refusal (at-with rows d) ∙ directory_refusal_cases (at rows d)

  pub put_refusal-with : (rows : Rows A) (p : AccountPath) → put_refusal (rows_with f rows) p ≡ put_refusal rows p
  put_refusal-with rows p =
      ap (λ r. first_refusal (refuse_if (is_root p) refusal.RootDirectory) (first_refusal r (refuse_if (is_directory (at (rows_with f rows) p)) refusal.DirectoryOperation))) (above-with rows (parent_of p))
      ∙ ap (λ b. first_refusal (refuse_if (is_root p) refusal.RootDirectory) (first_refusal (parent_refusal rows p) (refuse_if b refusal.DirectoryOperation))) (is_directory-with rows p)

  pub make_directory_refusal-with : (rows : Rows A) (p : AccountPath) → make_directory_refusal (rows_with f rows) p ≡ make_directory_refusal rows p
  make_directory_refusal-with rows p =
      ap (λ b. first_refusal (refuse_if b refusal.EntityExists) (parent_refusal (rows_with f rows) p)) (is_there-with rows p)
      ∙ ap (λ r. first_refusal (refuse_if (is_some (at rows p)) refusal.EntityExists) r) (above-with rows (parent_of p))

  pub remove_refusal-with : (rows : Rows A) (p : AccountPath) → remove_refusal (rows_with f rows) p ≡ remove_refusal rows p
  remove_refusal-with rows p =
      ap (λ b. first_refusal (refuse_if (is_root p) refusal.RootDirectory) (first_refusal (refuse_if (not b) refusal.NotFound) (refuse_if (not (length (children (rows_with f rows) p) == 0)) refusal.DirectoryNotEmpty))) (is_there-with rows p)
      ∙ ap (λ n. first_refusal (refuse_if (is_root p) refusal.RootDirectory) (first_refusal (refuse_if (not (is_some (at rows p))) refusal.NotFound) (refuse_if (not (n == 0)) refusal.DirectoryNotEmpty))) (result_set_size-with rows p)

  source_cases : (o : Option (Entry A)) → source_refusal (option_map (entry_with f) o) ≡ source_refusal o
  source_cases None = refl
  source_cases (Some (entry.Directory m)) = refl
  source_cases (Some (entry.Object o)) = refl

  pub link_refusal-with : (rows : Rows A) (p source : AccountPath) → link_refusal (rows_with f rows) p source ≡ link_refusal rows p source
  link_refusal-with rows p source =
      ap (λ o. first_refusal (source_refusal o) (put_refusal (rows_with f rows) p)) (at-with rows source)
      ∙ ap (λ r. first_refusal r (put_refusal (rows_with f rows) p)) (source_cases (at rows source))
      ∙ ap (first_refusal (source_refusal (at rows source))) (put_refusal-with rows p)
