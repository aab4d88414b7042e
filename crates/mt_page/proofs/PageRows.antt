-- The page of a store is read as its rows.
use Rattle.std.proofs.Common.{◌≡◌, ℕ, ◌<◌, ◌≤◌, ◌^◌, Bool, true, false, not, cond, List, [], ◌∷◌, ◌++◌, map, Some, Ok, Err, option_map, option_and_then, IsUtf8, refl, ap, ◌∙◌, arith, codes}
use Rattle.std.specs.List.{AllByRecursion}
use Rattle.std.specs.Prelude.{is_some}
use Rattle.std.specs.Result.{result_ok}
use Rattle.std.proofs.lemmas.Str.{IsUtf8-from_ascii}
use Rattle.json.proofs.Printed.Utf8.{IsUtf8-are_ascii, are_ascii}
use Rattle.serde_json.specs.Data.{Data}
use Rattle.serde_json.specs.Written.{compact_text}
use Rattle.mt_base.specs.declared.limits.TheConstants.{LAST_MOMENT}
use Rattle.mt_ident.proofs.DateTexts.{IsAscii-iso_time_text}
use Rattle.mt_ident.proofs.IdentifierTexts.{IsUtf8-identifier_text}
use Rattle.mt_json.specs.Laws.{IsKept}
use Rattle.mt_json.specs.Lines.{each, lines_text}
use Rattle.mt_json.proofs.Kept.{lines-texts, values-again}
use Rattle.mt_live.specs.LiveTexts.{IsEntryListable, directory_data, line_data, object_data, page_text, row_line}
use Rattle.mt_model.specs.Listing.{name_of}
use Rattle.mt_path.specs.AccountPath.{AccountPath, is_component}
use Rattle.mt_path.specs.Names.{child_of}
use Rattle.mt_path.specs.declared.error.PathError.TheVariants.{BadComponent, TooLong}
use Rattle.mt_path.proofs.Components.{IsComponent-from_test}
use Rattle.mt_types.specs.declared.object.Entry.{Entry}
use Rattle.mt_types.specs.declared.object.Entry.TheVariants as entry
use Rattle.mt_types.specs.declared.object.Row.{Row}
use Rattle.mt_page.specs.declared.row.PageRow.{PageRow}
use Rattle.mt_page.specs.declared.row.RowKind.TheVariants.{Directory, Object}
use Rattle.mt_page.specs.Laws.{HasSize, IsListed, PagesAreRead, kind_of, shown}
use Rattle.mt_page.specs.Pages.{in_order, is_below, is_in_order, row_in, row_of, rows_in}

-- ---- names

by_tests : (long plain : Bool) (child : AccountPath) → is_some (result_ok (cond long (Err TooLong) (cond (not plain) (Err BadComponent) (Ok child)))) ≡ true → plain ≡ true
by_tests true plain child is = cc
by_tests false true child is = refl
by_tests false false child is = cc

below_component : (dir : AccountPath) (name : List ℕ) → is_below dir name ≡ true → is_component name ≡ true
unfolding child_of
below_component dir name is = by_tests _ (is_component name) _ is

below_text : (dir : AccountPath) (name : List ℕ) → is_below dir name ≡ true → IsUtf8 name
below_text dir name is = (IsComponent-from_test name (below_component dir name is)).text

-- ---- lines are read again

key : (k : List ℕ) → are_ascii k ≡ true → IsUtf8 k
key k ascii = IsUtf8-are_ascii k ascii

directory_kept : (name : List ℕ) (mtime : ℕ) → IsUtf8 name → mtime ≤ LAST_MOMENT → IsKept (directory_data name mtime)
unfolding directory_data
directory_kept name mtime text early = record {
  plain = (
    refl,
    (key (codes "mtime") refl, IsUtf8-from_ascii _ (IsAscii-iso_time_text mtime early), (key (codes "name") refl, text, (key (codes "type") refl, key (codes "directory") refl, tt))),
  );
  shallow = omega arith;
}

object_kept : (name : List ℕ) (n mtime size : ℕ) → IsUtf8 name → mtime ≤ LAST_MOMENT → size < 2 ^ 64 → IsKept (object_data name n mtime size)
unfolding object_data
object_kept name n mtime size text early small = record {
  plain = (
    refl,
    (
      key (codes "etag") refl,
      IsUtf8-identifier_text 1 n,
      (
        key (codes "mtime") refl,
        IsUtf8-from_ascii _ (IsAscii-iso_time_text mtime early),
        (key (codes "name") refl, text, (key (codes "size") refl, small, (key (codes "type") refl, key (codes "object") refl, tt))),
      ),
    ),
  );
  shallow = omega arith;
}

-- ---- and are the rows

directory_row : (dir : AccountPath) (name : List ℕ) (mtime : ℕ) → is_below dir name ≡ true → row_in dir (directory_data name mtime) ≡ Some (record { name = name; kind = Directory })
unfolding row_in directory_data
directory_row dir name mtime below = rw below refl

object_row : (dir : AccountPath) (name : List ℕ) (n mtime size : ℕ) → is_below dir name ≡ true → row_in dir (object_data name n mtime size) ≡ Some (record { name = name; kind = Object })
unfolding row_in object_data
object_row dir name n mtime size below = rw below refl

module _ {B : Type 0} (size : B → ℕ) (dir : AccountPath) where
  kept : (name : List ℕ) (e : Entry B) → IsUtf8 name → IsEntryListable e → HasSize size e → IsKept (line_data size name e)
  kept name (entry.Directory mtime) text early small = directory_kept name mtime text early
  kept name (entry.Object o) text early small = object_kept name o.number o.mtime (size o.body) text early.0 small

  said : (name : List ℕ) (e : Entry B) → is_below dir name ≡ true → row_in dir (line_data size name e) ≡ Some (record { name = name; kind = kind_of e })
  said name (entry.Directory mtime) below = directory_row dir name mtime below
  said name (entry.Object o) below = object_row dir name o.number o.mtime (size o.body) below

  abbrev data_of : Row B → Data
  data_of r = line_data size (name_of r.path) r.entry

  row_kept : (r : Row B) → IsListed size dir r → IsKept (data_of r)
  row_kept r l = kept (name_of r.path) r.entry (below_text dir (name_of r.path) l.below) l.listable l.sized

  row_said : (r : Row B) → IsListed size dir r → row_of dir (compact_text (data_of r)) ≡ Some (shown r)
  row_said r l = ap (option_and_then (row_in dir)) (values-again (data_of r) (row_kept r l)) ∙ said (name_of r.path) r.entry l.below

  all_kept : (rows : List (Row B)) → AllByRecursion (IsListed size dir) rows → AllByRecursion IsKept (map data_of rows)
  all_kept [] all = tt
  all_kept (r ∷ rows) all = (row_kept r all.0, all_kept rows all.1)

  page_lines : (rows : List (Row B)) → page_text size rows ≡ lines_text (map data_of rows)
  page_lines [] = refl
  page_lines (r ∷ rows) = ap (λ l. row_line size r ++ l) (page_lines rows)

  each_said : (rows : List (Row B)) → AllByRecursion (IsListed size dir) rows → each (row_of dir) (map compact_text (map data_of rows)) ≡ Some (map shown rows)
  each_said [] all = refl
  each_said (r ∷ rows) all =
      ap (option_and_then (λ x. option_map (λ xs. x ∷ xs) (each (row_of dir) (map compact_text (map data_of rows))))) (row_said r all.0)
      ∙ ap (option_map (λ xs. shown r ∷ xs)) (each_said rows all.1)

  rows_said : (rows : List (Row B)) → AllByRecursion (IsListed size dir) rows → rows_in dir (page_text size rows) ≡ Some (map shown rows)
  rows_said rows all =
      ap (rows_in dir) (page_lines rows) ∙ ap (option_and_then (each (row_of dir))) (lines-texts (map data_of rows) (all_kept rows all)) ∙ each_said rows all

in_order-is : (marker : List ℕ) (rows : List PageRow) → is_in_order marker rows ≡ true → in_order marker rows ≡ Some rows
in_order-is marker rows is = rw is refl

pub pages-read : (B : Type 0) → PagesAreRead B
pages-read B size dir marker rows all order = ap (option_and_then (in_order marker)) (rows_said size dir rows all) ∙ in_order-is marker (map shown rows) order
