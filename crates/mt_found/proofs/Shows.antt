-- What a search shows of a directory's rows, and what is left of them.
use Rattle.std.proofs.Common.{◌≡◌, ℕ, ◌<◌, true, List, [], ◌∷◌, ◌++◌, length, map, Option, Some, None, is_some, refl, sym, ap, subst, ◌∙◌, append-nil, arith}
use Rattle.std.specs.List.{AllByRecursion}
use Rattle.std.proofs.lemmas.List.Concat.{flat_map-append}
use Rattle.mt_path.specs.AccountPath.{AccountPath, IsPath, path_text}
use Rattle.mt_types.specs.declared.object.Entry.{Entry}
use Rattle.mt_types.specs.declared.object.Entry.TheVariants as entry
use Rattle.mt_live.specs.LiveTexts.{IsEntryListable}
use Rattle.mt_model.specs.Rows.{Rows, at, children, is_child, is_directory}
use Rattle.mt_page.specs.Laws.{HasSize}
use Rattle.mt_script.specs.Levels.{Shown, row_line, shown, shown_by}
use Rattle.mt_found.specs.Found.{IsSearchable, is_below, lines_of, rows_below}
use Rattle.mt_found.proofs.Fronts.{below-within, child-below, is_within, longer-below, below-longer, within-long, within_within}
use Rattle.mt_found.proofs.Lists.{both, each, each_kept, each_passes}
use Rattle.mt_found.proofs.Names.{entered-directory, line-whole, told}
use Rattle.mt_found.proofs.Trees.{Stands, all_within, below-none, each_stands, rising, within-row}

pub lines-append : {B : Type 0} (login : List ℕ) (xs ys : Rows B) → lines_of login (xs ++ ys) ≡ lines_of login xs ++ lines_of login ys
lines-append login xs ys = flat_map-append (λ r. path_text login r.0 ++ 10 ∷ []) xs ys

module _ {B : Type 0} (size : B → ℕ) (path : AccountPath) (rows : Rows B) where
  -- a row of a directory
  pub record IsRowOf (d : AccountPath) (r : AccountPath × Entry B) : Type 0 where
    pub child : is_child d r.0 ≡ true
    pub stands : Stands rows r
    pub listable : IsEntryListable r.1 × HasSize size r.1

  -- what is below the directory that is gone into
  abbrev pub inside : Option AccountPath → Rows B
  inside None = []
  inside (Some p) = rows_below rows p

  -- what rows of a directory show: the lines of those that were shown; these are left, and the rest is still to come
  pub record ShowsRows (login : List ℕ) (d : AccountPath) (these : Rows B) (s : Shown) : Type 0 where
    pub left : Rows B
    pub is : s.left ≡ map told left
    pub each : AllByRecursion (IsRowOf d) left
    pub done : Rows B
    pub text : s.text ≡ lines_of login done
    pub whole : all_within rows these ≡ done ++ (inside s.into ++ all_within rows left)
    pub over : s.into ≡ None → left ≡ []
    pub some : 0 < length these → 0 < length done
    pub enters : (p : AccountPath) → s.into ≡ Some p → 0 < length done
    pub within : (p : AccountPath) → s.into ≡ Some p → (is_within path p ≡ true) × (is_directory (at rows p) ≡ true)

  module _ (law : IsSearchable size path rows) where
    pub rows_of : (d : AccountPath) → AllByRecursion (IsRowOf d) (children rows d)
    rows_of d =
        each (λ r. is_child d r.0 ≡ true × (Stands rows r × (IsEntryListable r.1 × HasSize size r.1))) (IsRowOf d) (λ r h. record { child = h.0; stands = h.1.0; listable = h.1.1 }) (children rows d)
        (both (λ r. is_child d r.0 ≡ true) (λ r. Stands rows r × (IsEntryListable r.1 × HasSize size r.1)) (children rows d) (each_passes (λ r. is_child d r.0) rows)
        (each_kept (λ r. Stands rows r × (IsEntryListable r.1 × HasSize size r.1)) (λ r. is_child d r.0) rows
        (both (Stands rows) (λ r. IsEntryListable r.1 × HasSize size r.1) rows (each_stands rows (rising size path rows law)) law.listable)))

    pub child_path : (d : AccountPath) (r : AccountPath × Entry B) → IsRowOf d r → IsPath r.0
    child_path d r h = law.paths r.0 (ap is_some h.stands)

    module _ (login : List ℕ) (d : AccountPath) (in_path : is_within path d ≡ true) where
      -- a child is below the path
      child_in : (r : AccountPath × Entry B) → IsRowOf d r → is_below path r.0 ≡ true
      child_in r h =
          let below = child-below d r.0 h.child in
          longer-below path r.0 (omega (arith, within-long path d in_path, below-longer d r.0 below)) (within_within path d r.0 in_path (below-within d r.0 below))

      shows_one : (r : AccountPath × Entry B) (rs : Rows B) → IsRowOf d r → AllByRecursion (IsRowOf d) rs → ShowsRows login d rs (shown true login d (map told rs)) → ShowsRows login d (r ∷ rs) (shown true login d (map told (r ∷ rs)))
      shows_one (p, entry.Directory mtime) rs h all later =
          let r : AccountPath × Entry B = (p, entry.Directory mtime) in
          let line = row_line true (path_text login d) (told r) in
          subst (λ o. ShowsRows login d (r ∷ rs) (shown_by line (map told rs) (shown true login d (map told rs)) o)) (sym (entered-directory d p h.child (child_path d r h)))
          (record {
            left = rs;
            is = refl;
            each = all;
            done = r ∷ [];
            text = line-whole login d r h.child ∙ sym (append-nil (path_text login p ++ 10 ∷ []));
            whole = ap (λ l. l ++ all_within rows rs) (within-row rows (rising size path rows law) r h.stands);
            over = λ none. cc;
            some = λ more. omega arith;
            enters = λ q same. omega arith;
            within = λ q same. let here : p ≡ q = cc in subst (λ x. (is_within path x ≡ true) × (is_directory (at rows x) ≡ true)) here (below-within path p (child_in r h), ap is_directory h.stands);
          })
      shows_one (p, entry.Object o) rs h all later =
          let r : AccountPath × Entry B = (p, entry.Object o) in
          let line = row_line true (path_text login d) (told r) in
          let s = shown true login d (map told rs) in
          let none : rows_below rows p ≡ [] = below-none size path rows law p (child_in r h) (ap is_directory h.stands) in
          record {
            left = later.left;
            is = later.is;
            each = later.each;
            done = r ∷ later.done;
            text = ap (λ t. t ++ s.text) (line-whole login d r h.child) ∙ ap (λ t. (path_text login p ++ 10 ∷ []) ++ t) later.text;
            whole = ap (λ l. l ++ all_within rows rs) (within-row rows (rising size path rows law) r h.stands) ∙ ap (λ l. r ∷ (l ++ all_within rows rs)) none ∙ ap (λ l. r ∷ l) later.whole;
            over = later.over;
            some = λ more. omega arith;
            enters = λ q same. omega arith;
            within = later.within;
          }

      pub shows : (these : Rows B) → AllByRecursion (IsRowOf d) these → ShowsRows login d these (shown true login d (map told these))
      shows [] all = record { left = []; is = refl; each = tt; done = []; text = refl; whole = refl; over = λ none. refl; some = λ more. more; enters = λ q same. cc; within = λ q same. cc }
      shows (r ∷ rs) all = shows_one r rs all.0 all.1 (shows rs all.1)
