-- The text of a page of a directory: a line of JSON (RFC 8259) a row, its keys in the order of their bytes, without spaces.
use Rattle.std.specs.Prelude.{ℕ, ◌<◌, ◌≤◌, ◌^◌, List, [], ◌∷◌, ◌++◌, codes}
use Rattle.std.specs.List.{flat_map}
use Rattle.serde_json.specs.Data.{Data, member, no_members, number, object, string, unsigned}
use Rattle.serde_json.specs.Written.{compact_text}
use Rattle.mt_ident.specs.Dates.{iso_time_text}
use Rattle.mt_ident.specs.Identifiers.{identifier_text}
use Rattle.mt_base.specs.declared.limits.TheConstants.{LAST_MOMENT}
use Rattle.mt_model.specs.Listing.{name_of}
use Rattle.mt_model.specs.Names.{job_name}
use Rattle.mt_types.specs.declared.job.Job.{Job}
use Rattle.mt_types.specs.declared.object.Entry.{Entry}
use Rattle.mt_types.specs.declared.object.Entry.TheVariants as entry
use Rattle.mt_types.specs.declared.object.Row.{Row}

-- a directory of this name
unfoldable pub directory_data : List ℕ → ℕ → Data
directory_data name mtime =
    object (member (codes "mtime") (string (iso_time_text mtime)) (member (codes "name") (string name) (member (codes "type") (string (codes "directory")) no_members)))

-- an object of this name: its number, its moment and how many bytes it has
unfoldable pub object_data : List ℕ → ℕ → ℕ → ℕ → Data
object_data name n mtime size =
    object (member (codes "etag") (string (identifier_text 1 n)) (member (codes "mtime") (string (iso_time_text mtime))
    (member (codes "name") (string name) (member (codes "size") (number (unsigned size)) (member (codes "type") (string (codes "object")) no_members)))))

module _ {B : Type 0} where
  -- its moment has a date, and its number an identifier
  abbrev pub IsEntryListable : Entry B → Type 0
  IsEntryListable (entry.Directory mtime) = mtime ≤ LAST_MOMENT
  IsEntryListable (entry.Object o) = (o.mtime ≤ LAST_MOMENT) × (o.number < 2 ^ 62)

  -- what stands at this name in a directory
  abbrev pub line_data : (B → ℕ) → List ℕ → Entry B → Data
  line_data size name (entry.Directory mtime) = directory_data name mtime
  line_data size name (entry.Object o) = object_data name o.number o.mtime (size o.body)

  -- its line
  abbrev pub page_line : (B → ℕ) → List ℕ → Entry B → List ℕ
  page_line size name e = compact_text (line_data size name e) ++ 10 ∷ []

  -- the line of a row
  abbrev pub row_line : (B → ℕ) → Row B → List ℕ
  row_line size r = page_line size (name_of r.path) r.entry

  -- the lines of rows, whose bodies have so many bytes each
  abbrev pub page_text : (B → ℕ) → List (Row B) → List ℕ
  page_text size rows = flat_map (row_line size) rows

-- the line of a job's folder: its name, and the moment at which the job was made
abbrev pub job_line : ℕ → ℕ → List ℕ
job_line job created = compact_text (directory_data (job_name job) created) ++ 10 ∷ []

-- the lines of the folders of jobs
abbrev pub jobs_text : {B : Type 0} → List (Job B) → List ℕ
jobs_text jobs = flat_map (λ j. job_line j.number j.created) jobs
