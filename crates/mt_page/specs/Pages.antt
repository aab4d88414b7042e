-- What a page of a directory tells, from its lines (RFC 8259): where a key comes twice, the last stands; other keys are passed over.
use Rattle.std.specs.Prelude.{ℕ, Bool, true, ◌&&◌, List, [], ◌∷◌, codes, bytes_eq, Option, Some, None, option_map, option_and_then, is_some, if◌then◌else◌}
use Rattle.std.specs.Cmp.Lexicographic.{slice_cmp}
use Rattle.std.specs.Ordering.{is_le, is_lt, nat_cmp}
use Rattle.std.specs.Result.{result_ok}
use Rattle.serde_json.specs.Data.{Data}
use Rattle.serde_json.specs.Find.{as_str, get}
use Rattle.mt_json.specs.Lines.{each, lines_of}
use Rattle.mt_json.specs.Plain.{value_of}
use Rattle.mt_path.specs.AccountPath.{AccountPath}
use Rattle.mt_path.specs.Names.{child_of}
use Rattle.mt_page.specs.declared.row.PageRow.{PageRow}
use Rattle.mt_page.specs.declared.row.RowKind.{RowKind}
use Rattle.mt_page.specs.declared.row.RowKind.TheVariants.{Directory, Object}

-- ---- a row

-- a name that makes a path below a directory
abbrev pub is_below : AccountPath → List ℕ → Bool
is_below dir name = is_some (result_ok (child_of dir name))

abbrev pub named : AccountPath → List ℕ → Option (List ℕ)
named dir name = if is_below dir name then Some name else None

-- the name of a row
abbrev pub name_in : AccountPath → Data → Option (List ℕ)
name_in dir d = option_and_then (named dir) (option_and_then as_str (get (codes "name") d))

-- the kind that a word names
abbrev pub kind_named : List ℕ → Option RowKind
kind_named word = if bytes_eq word (codes "object") then Some Object else (if bytes_eq word (codes "directory") then Some Directory else None)

-- the kind of a row
abbrev pub kind_in : Data → Option RowKind
kind_in d = option_and_then kind_named (option_and_then as_str (get (codes "type") d))

-- the row that a value is
unfoldable pub row_in : AccountPath → Data → Option PageRow
row_in dir d = option_and_then (λ name. option_map (λ kind. record { name = name; kind = kind }) (kind_in d)) (name_in dir d)

-- the row that a line is
abbrev pub row_of : AccountPath → List ℕ → Option PageRow
row_of dir line = option_and_then (row_in dir) (value_of line)

-- ---- a page

-- the rows that lines are, if each is one
abbrev pub rows_in : AccountPath → List ℕ → Option (List PageRow)
rows_in dir bytes = option_and_then (each (row_of dir)) (lines_of bytes)

-- the names of rows rise in the order of their bytes, the first above this one
abbrev pub rises_above : List ℕ → List PageRow → Bool
rises_above name [] = true
rises_above name (r ∷ rows) = is_lt (slice_cmp nat_cmp name r.name) && rises_above r.name rows

-- the names of rows rise, and the first is not below the marker
abbrev pub is_in_order : List ℕ → List PageRow → Bool
is_in_order marker [] = true
is_in_order marker (r ∷ rows) = is_le (slice_cmp nat_cmp marker r.name) && rises_above r.name rows

abbrev pub in_order : List ℕ → List PageRow → Option (List PageRow)
in_order marker rows = if is_in_order marker rows then Some rows else None

-- the rows of a page of a directory, from a marker on
abbrev pub rows_of_page : AccountPath → List ℕ → List ℕ → Option (List PageRow)
rows_of_page dir marker bytes = option_and_then (in_order marker) (rows_in dir bytes)
