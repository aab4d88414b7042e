-- The rows of a page, without the marker's own, and what is left behind them.
use Rattle.std.proofs.Common.{◌≡◌, ℕ, suc, ◌<◌, ◌≤◌, ◌+◌, ◌-◌, Bool, true, false, not, cond, List, [], ◌∷◌, ◌++◌, length, take, drop, map, bytes_eq, nat_le, slice_get, zero, IsUtf8, IfSome, Option, Some, None, option_map, ◌⊎◌, ⊎_elim, refl, sym, ap, subst, ◌∙◌, arith, append_assoc}
use Rattle.std.specs.List.{AllByRecursion, filter}
use Rattle.std.specs.Ordering.{is_lt}
use Rattle.std.proofs.lemmas.Bool.{cases_Bool, false_from_ne_true, le-leb, leb-false, leb-true, lt-leb, true≢false}
use Rattle.std.proofs.lemmas.List.{drop_all, length-drop, length-map, length-take, map-append, take-append-drop}
use Rattle.mt_path.specs.AccountPath.{AccountPath}
use Rattle.mt_model.specs.Listing.{is_from, name_of}
use Rattle.mt_model.specs.Rows.{Rows, at, children, is_child, is_directory}
use Rattle.mt_ask.specs.declared.ask.PageAsk.{PageAsk}
use Rattle.mt_page.specs.declared.row.PageRow.{PageRow}
use Rattle.mt_script.specs.Levels.{behind_marker, begins_with_marker, last_name, page_rows}
use Rattle.mt_script.specs.Script.{marker_bytes}
use Rattle.mt_found.specs.Found.{IsSearchable}
use Rattle.mt_found.proofs.Fronts.{is_within}
use Rattle.mt_found.proofs.Lists.{Rising, each_kept, each_passes}
use Rattle.mt_found.proofs.Names.{name-text, names-less, told}
use Rattle.mt_found.proofs.Orders.{Above, Behind, above_item, above_name, before_marker, cut, each_taken, from_name, from_none, from_split, has_name, has_name-is, is_above_name, last_name-push, name_cmp, name_itself, rising_each, single}
use Rattle.mt_found.proofs.Shows.{IsRowOf, child_path, rows_of}
use Rattle.mt_found.proofs.Trees.{Before, children_rise}

pub each_front : {X : Type 0} (P : X → Type 0) (xs ys : List X) → AllByRecursion P (xs ++ ys) → AllByRecursion P xs
each_front P [] ys all = tt
each_front P (x ∷ xs) ys all = (all.0, each_front P xs ys all.1)

no_marker : (rows : List PageRow) → behind_marker None rows ≡ rows
no_marker [] = refl
no_marker (r ∷ rows) = refl

-- what holds of all names holds of the last
place_each : {X : Type 0} (P : X → Type 0) (xs : List X) (i : ℕ) → AllByRecursion P xs → IfSome (slice_get xs i) P
place_each P [] i all = tt
place_each P (x ∷ xs) zero all = all.0
place_each P (x ∷ xs) (suc i) all = place_each P xs i all.1

last_each : (P : List ℕ → Type 0) (rows : List PageRow) → AllByRecursion (λ r. P r.name) rows → IfSome (last_name rows) P
last_each P rows all = by (slice_get rows (length rows - 1)) (place_each (λ r. P r.name) rows (length rows - 1) all)
  where
    by : (o : Option PageRow) → IfSome o (λ r. P r.name) → IfSome (option_map (λ r. r.name) o) P
    by None is = tt
    by (Some r) is = is

-- the marker's own row is one at most
at_most_one : (marker : Option (List ℕ)) (rows : List PageRow) → length rows ≤ length (behind_marker marker rows) + 1
at_most_one marker rows = by (begins_with_marker marker rows)
  where
    by : (b : Bool) → length rows ≤ length (cond b (drop 1 rows) rows) + 1
    by true = omega (arith, length-drop 1 rows)
    by false = omega arith

module _ {B : Type 0} where
  own_row : (n : ℕ) (m : List ℕ) (own above : Rows B) → AllByRecursion (λ r. has_name m r ≡ true) own → length own ≤ 1 → AllByRecursion (λ r. is_above_name m r ≡ true) above → Behind (suc n) (Some m) (own ++ above) above
  own_row n m [] [] own few higher = record { these = []; are = refl; whole = refl }
  own_row n m [] (r ∷ rs) own few higher =
      let other : bytes_eq (name_of r.0) m ≡ false = false_from_ne_true (has_name m r) (λ t.
      let tied : is_lt (name_cmp m (name_of r.0)) ≡ false = ap (λ x. is_lt (name_cmp m x)) (has_name-is m r t) ∙ ap is_lt (name_itself m) in
      true≢false (sym higher.0 ∙ tied)) in
      record {
        these = r ∷ take n rs;
        are = ap (λ b. cond b (map told (take n rs)) (told r ∷ map told (take n rs))) other;
        whole = ap (λ l. r ∷ l) (take-append-drop n rs);
      }
  own_row n m (x ∷ []) above own few higher = record {
    these = take n above;
    are = ap (λ b. cond b (map told (take n above)) (told x ∷ map told (take n above))) own.0;
    whole = take-append-drop n above;
  }
  own_row n m (x ∷ y ∷ own) above all few higher = absurd (omega arith)

  behind_some : (n : ℕ) (m : List ℕ) (rows : Rows B) → Rising Above rows → Behind (suc n) (Some m) (from_name m rows) (above_name m rows)
  behind_some n m rows rising =
      subst (λ l. Behind (suc n) (Some m) l (above_name m rows)) (sym (from_split m rows rising))
      (own_row n m (filter (has_name m) rows) (above_name m rows) (each_passes (has_name m) rows) (single m rows rising) (each_passes (is_above_name m) rows))

  behind_none : (n : ℕ) (rows : Rows B) → Behind n None (from_name [] rows) rows
  behind_none n rows = record {
    these = take n (from_name [] rows);
    are = no_marker (map told (take n (from_name [] rows)));
    whole = take-append-drop n (from_name [] rows) ∙ from_none rows;
  }

  -- a page that is full ends with a row, and above its name are the rows that follow
  record Full (n : ℕ) (m : List ℕ) (rows : Rows B) : Type 0 where
    name : List ℕ
    last : last_name (map told (take (suc n) (from_name m rows))) ≡ Some name
    rest : above_name name rows ≡ drop (suc n) (from_name m rows)

  full : (n : ℕ) (m : List ℕ) (rows : Rows B) → Rising Above rows → n < length (from_name m rows) → Full n m rows
  full n m rows rising lt =
      let c = cut n (from_name m rows) lt in
      let whole : rows ≡ (filter (λ r. not (is_from m r.0)) rows ++ c.before) ++ c.item ∷ c.after =
      before_marker m rows rising ∙ ap (λ l. filter (λ r. not (is_from m r.0)) rows ++ l) c.whole ∙ sym (append_assoc (filter (λ r. not (is_from m r.0)) rows) c.before (c.item ∷ c.after)) in
      record {
        name = name_of c.item.0;
        last = ap (λ l. last_name (map told l)) c.front ∙ ap last_name (map-append told c.before (c.item ∷ [])) ∙ last_name-push (map told c.before) (told c.item);
        rest =
            ap (above_name (name_of c.item.0)) whole
            ∙ above_item (filter (λ r. not (is_from m r.0)) rows ++ c.before) c.item c.after (subst (Rising Above) whole rising)
            ∙ sym c.rest;
      }

module _ {B : Type 0} (size : B → ℕ) (path : AccountPath) (rows : Rows B) where
  -- the children of a directory behind a marker, where more of them are due
  abbrev pub due_rows : Bool → AccountPath → Option (List ℕ) → Rows B
  due_rows false d marker = []
  due_rows true d None = children rows d
  due_rows true d (Some m) = above_name m (children rows d)

  -- the page of a directory from a marker on
  abbrev pub page_at : AccountPath → Option (List ℕ) → Rows B
  page_at d marker = take page_rows (from_name (marker_bytes marker) (children rows d))

  -- a page that may be asked for: of the path or a directory below it, from a text on
  pub record IsKnown (ask : PageAsk) : Type 0 where
    pub within : is_within path ask.directory ≡ true
    pub directory : (ask.directory ≡ path) ⊎ (is_directory (at rows ask.directory) ≡ true)
    pub marker : IfSome ask.marker IsUtf8

  -- the rows of a page, and those that are due behind it, are those that were due
  pub record Took (d : AccountPath) (marker : Option (List ℕ)) : Type 0 where
    pub these : Rows B
    pub are : behind_marker marker (map told (page_at d marker)) ≡ map told these
    pub each : AllByRecursion (IsRowOf size path rows d) these
    pub whole : these ++ due_rows (nat_le page_rows (length (map told (page_at d marker)))) d (last_name (map told (page_at d marker))) ≡ due_rows true d marker
    pub last : IfSome (last_name (map told (page_at d marker))) IsUtf8
    pub some : nat_le page_rows (length (map told (page_at d marker))) ≡ true → 0 < length these

  module _ (law : IsSearchable size path rows) where
    pub names_rise : (d : AccountPath) → Rising Above (children rows d)
    names_rise d = rising_each (λ r. is_child d r.0 ≡ true) Before Above (λ r s first second less. names-less d r.0 s.0 first second less) (children rows d)
        (each_passes (λ r. is_child d r.0) rows) (children_rise size path rows law d)

    behind_page : (d : AccountPath) (marker : Option (List ℕ)) → Behind page_rows marker (from_name (marker_bytes marker) (children rows d)) (due_rows true d marker)
    behind_page d None = behind_none page_rows (children rows d)
    behind_page d (Some m) = behind_some 255 m (children rows d) (names_rise d)

    due_each : (d : AccountPath) (marker : Option (List ℕ)) → AllByRecursion (IsRowOf size path rows d) (due_rows true d marker)
    due_each d None = rows_of size path rows law d
    due_each d (Some m) = each_kept (IsRowOf size path rows d) (is_above_name m) (children rows d) (rows_of size path rows law d)

    due_full : (d : AccountPath) (m : List ℕ) → 255 < length (from_name m (children rows d))
        → due_rows (nat_le page_rows (length (map told (take page_rows (from_name m (children rows d)))))) d (last_name (map told (take page_rows (from_name m (children rows d))))) ≡ drop page_rows (from_name m (children rows d))
    due_full d m lt =
        let f = full 255 m (children rows d) (names_rise d) lt in
        let page = take page_rows (from_name m (children rows d)) in
        let long : page_rows ≤ length (map told page) = omega (arith, length-map page (told {B = B}), length-take page_rows (from_name m (children rows d))) in
        ap (λ b. due_rows b d (last_name (map told page))) (le-leb page_rows (length (map told page)) long) ∙ ap (due_rows true d) f.last ∙ f.rest

    due_last : (d : AccountPath) (m : List ℕ) → length (from_name m (children rows d)) ≤ 255
        → due_rows (nat_le page_rows (length (map told (take page_rows (from_name m (children rows d)))))) d (last_name (map told (take page_rows (from_name m (children rows d))))) ≡ drop page_rows (from_name m (children rows d))
    due_last d m le =
        let page = take page_rows (from_name m (children rows d)) in
        let short : length (map told page) < page_rows = omega (arith, length-map page (told {B = B}), length-take page_rows (from_name m (children rows d))) in
        ap (λ b. due_rows b d (last_name (map told page))) (lt-leb page_rows (length (map told page)) short) ∙ sym (drop_all page_rows (from_name m (children rows d)) (omega arith))

    due_behind : (d : AccountPath) (m : List ℕ)
        → due_rows (nat_le page_rows (length (map told (take page_rows (from_name m (children rows d)))))) d (last_name (map told (take page_rows (from_name m (children rows d))))) ≡ drop page_rows (from_name m (children rows d))
    due_behind d m = ⊎_elim
        (λ t. due_full d m (leb-true 256 (length (from_name m (children rows d))) t))
        (λ f. due_last d m (omega (arith, leb-false 256 (length (from_name m (children rows d))) f)))
        (cases_Bool (nat_le 256 (length (from_name m (children rows d)))))

    pub page_each : (d : AccountPath) (marker : Option (List ℕ)) → AllByRecursion (IsRowOf size path rows d) (page_at d marker)
    page_each d marker = each_taken (IsRowOf size path rows d) page_rows (from_name (marker_bytes marker) (children rows d))
        (each_kept (IsRowOf size path rows d) (λ r. is_from (marker_bytes marker) r.0) (children rows d) (rows_of size path rows law d))

    texts : (d : AccountPath) (rs : Rows B) → AllByRecursion (IsRowOf size path rows d) rs → AllByRecursion (λ r. IsUtf8 r.name) (map told rs)
    texts d [] all = tt
    texts d (r ∷ rs) all = (name-text d r.0 all.0.child (child_path size path rows law d r all.0), texts d rs all.1)

    pub took : (d : AccountPath) (marker : Option (List ℕ)) → Took d marker
    took d marker =
        let b = behind_page d marker in
        record {
          these = b.these;
          are = b.are;
          each = each_front (IsRowOf size path rows d) b.these (drop page_rows (from_name (marker_bytes marker) (children rows d))) (subst (AllByRecursion (IsRowOf size path rows d)) (sym b.whole) (due_each d marker));
          whole = ap (λ l. b.these ++ l) (due_behind d (marker_bytes marker)) ∙ b.whole;
          some = λ full. omega (arith, leb-true page_rows (length (map told (page_at d marker))) full, at_most_one marker (map told (page_at d marker)), ap length b.are, length-map b.these (told {B = B}));
          last = last_each IsUtf8 (map told (page_at d marker)) (texts d (page_at d marker) (page_each d marker));
        }
