-- The page of a store is read as its rows.
use Rattle.std.specs.Prelude.{◌≡◌, ℕ, ◌<◌, ◌^◌, true, List, map, Some, ⊤}
use Rattle.std.specs.List.{AllByRecursion}
use Rattle.mt_live.specs.LiveTexts.{IsEntryListable, page_text}
use Rattle.mt_model.specs.Listing.{name_of}
use Rattle.mt_path.specs.AccountPath.{AccountPath}
use Rattle.mt_types.specs.declared.object.Entry.{Entry}
use Rattle.mt_types.specs.declared.object.Entry.TheVariants as entry
use Rattle.mt_types.specs.declared.object.Row.{Row}
use Rattle.mt_page.specs.declared.row.PageRow.{PageRow}
use Rattle.mt_page.specs.declared.row.RowKind.{RowKind}
use Rattle.mt_page.specs.declared.row.RowKind.TheVariants.{Directory, Object}
use Rattle.mt_page.specs.Pages.{is_below, is_in_order, rows_of_page}

module _ {B : Type 0} where
  -- what stands there
  abbrev pub kind_of : Entry B → RowKind
  kind_of (entry.Directory mtime) = Directory
  kind_of (entry.Object o) = Object

  -- what a page tells of a row
  abbrev pub shown : Row B → PageRow
  shown r = record { name = name_of r.path; kind = kind_of r.entry }

  -- the size of a body has 64 bits
  abbrev pub HasSize : (B → ℕ) → Entry B → Type 0
  HasSize size (entry.Directory mtime) = ⊤
  HasSize size (entry.Object o) = size o.body < 2 ^ 64

  -- a row that a page of a directory may show
  pub record IsListed (size : B → ℕ) (dir : AccountPath) (r : Row B) : Type 0 where
    pub below : is_below dir (name_of r.path) ≡ true
    pub listable : IsEntryListable r.entry
    pub sized : HasSize size r.entry

-- its text is read as the rows, where their names rise from the marker on
abbrev pub PagesAreRead : Type 0 → Type 0
PagesAreRead B = (size : B → ℕ) (dir : AccountPath) (marker : List ℕ) (rows : List (Row B)) → AllByRecursion (IsListed size dir) rows
    → is_in_order marker (map shown rows) ≡ true → rows_of_page dir marker (page_text size rows) ≡ Some (map shown rows)
