-- Directories that are being listed: what their rows show, which of them are gone into, and which page is due.
use Rattle.std.specs.Prelude.{ℕ, ◌-◌, Bool, true, false, ◌&&◌, nat_le, bytes_eq, List, [], ◌∷◌, ◌++◌, length, drop, slice_get, Option, Some, None, option_map, if◌then◌else◌}
use Rattle.std.specs.Result.{result_ok}
use Rattle.mt_path.specs.AccountPath.{AccountPath, path_text, slash}
use Rattle.mt_path.specs.Names.{child_of}
use Rattle.mt_ask.specs.declared.ask.PageAsk.{PageAsk}
use Rattle.mt_page.specs.declared.row.PageRow.{PageRow}
use Rattle.mt_page.specs.declared.row.RowKind.{RowKind}
use Rattle.mt_page.specs.declared.row.RowKind.TheVariants.{Directory, Object}

-- a directory that is being listed: the page that comes behind its rows, the rows that are still to be shown, and whether that page is due
pub record Listed : Type 0 where
  pub ask : PageAsk
  pub rows : List PageRow
  pub more : Bool

-- its first page is due
abbrev pub first_of : AccountPath → Listed
first_of p = record { ask = record { directory = p; marker = None }; rows = []; more = true }

-- ---- a page that has come

-- a page of fewer rows is the last one
abbrev pub page_rows : ℕ
page_rows = 256

-- the name of the last row
abbrev pub last_name : List PageRow → Option (List ℕ)
last_name rows = option_map (λ r. r.name) (slice_get rows (length rows - 1))

-- the row is the marker's own
abbrev pub is_marker : Option (List ℕ) → PageRow → Bool
is_marker None r = false
is_marker (Some name) r = bytes_eq r.name name

abbrev pub begins_with_marker : Option (List ℕ) → List PageRow → Bool
begins_with_marker marker [] = false
begins_with_marker marker (r ∷ rows) = is_marker marker r

-- the rows without the marker's own, which comes first
abbrev pub behind_marker : Option (List ℕ) → List PageRow → List PageRow
behind_marker marker rows = if begins_with_marker marker rows then drop 1 rows else rows

-- its rows are to be shown; the page behind its last name is due, unless it is the last one
abbrev pub page_taken : Listed → List PageRow → Listed
page_taken l rows = record {
  ask = record { directory = l.ask.directory; marker = last_name rows };
  rows = behind_marker l.ask.marker rows;
  more = nat_le page_rows (length rows);
}

-- the page of the first of these
abbrev pub taken : List Listed → List PageRow → List Listed
taken [] rows = []
taken (l ∷ ls) rows = page_taken l rows ∷ ls

-- ---- rows

abbrev pub is_directory : RowKind → Bool
is_directory Object = false
is_directory Directory = true

-- a slash stands behind a directory's name
abbrev pub mark_of : RowKind → List ℕ
mark_of Object = []
mark_of Directory = slash ∷ []

-- what a row shows, of a search its whole name; the directory has this text
abbrev pub name_shown : Bool → List ℕ → PageRow → List ℕ
name_shown true dir r = dir ++ slash ∷ r.name
name_shown false dir r = r.name ++ mark_of r.kind

abbrev pub row_line : Bool → List ℕ → PageRow → List ℕ
row_line deep dir r = name_shown deep dir r ++ 10 ∷ []

-- the directory that a search goes into at a row
abbrev pub entered : Bool → AccountPath → PageRow → Option AccountPath
entered deep dir r = if deep && is_directory r.kind then result_ok (child_of dir r.name) else None

-- rows up to the first that is gone into: their lines, that directory, and the rows that are left
pub record Shown : Type 0 where
  pub text : List ℕ
  pub into : Option AccountPath
  pub left : List PageRow

abbrev pub shown_by : List ℕ → List PageRow → Shown → Option AccountPath → Shown
shown_by line rows later None = record { text = line ++ later.text; into = later.into; left = later.left }
shown_by line rows later (Some p) = record { text = line; into = Some p; left = rows }

abbrev pub shown : Bool → List ℕ → AccountPath → List PageRow → Shown
shown deep login dir [] = record { text = []; into = None; left = [] }
shown deep login dir (r ∷ rows) = shown_by (row_line deep (path_text login dir) r) rows (shown deep login dir rows) (entered deep dir r)

-- ---- directories, the innermost first

-- what is shown until a page is due, and the directories then: the first of them asks for it; none where all is shown
pub record Settled : Type 0 where
  pub text : List ℕ
  pub levels : List Listed

-- the rows that are left of it
abbrev pub with_rows : Listed → List PageRow → Listed
with_rows l rows = record { ask = l.ask; rows = rows; more = l.more }

-- its rows are shown: it stays where its next page is due, and is over else
abbrev pub settled_out : Bool → List ℕ → Listed → List Listed → Settled → Settled
settled_out true text l ls later = record { text = text; levels = l ∷ ls }
settled_out false text l ls later = record { text = text ++ later.text; levels = later.levels }

abbrev pub settled_by : Listed → List Listed → Settled → Shown → Option AccountPath → Settled
settled_by l ls later s (Some p) = record { text = s.text; levels = first_of p ∷ with_rows l s.left ∷ ls }
settled_by l ls later s None = settled_out l.more s.text (with_rows l s.left) ls later

abbrev pub settled : Bool → List ℕ → List Listed → Settled
settled deep login [] = record { text = []; levels = [] }
settled deep login (l ∷ ls) = let s = shown deep login l.ask.directory l.rows in settled_by l ls (settled deep login ls) s s.into
