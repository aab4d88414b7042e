-- Judging by windows, a file at a time: bodies are places in what was left, and none is read.
use Rattle.std.specs.Prelude.{◌≡◌, ℕ, ◌+◌, ◌≤◌, min, List, [], ◌∷◌, ◌++◌, length, take, drop, Option, Some, None, option_map, ⊤}
use Rattle.std.specs.List.{slice_get}
use Rattle.mt_types.specs.declared.task.Fate.{Fate}
use Rattle.mt_types.specs.declared.task.Made.{Made}
use Rattle.mt_types.specs.declared.task.TaskFailure.{TaskFailure}
use Rattle.mt_spawn.specs.Parts.{part_bytes, size_among}
use Rattle.mt_spawn.specs.declared.task.FileSize.{FileSize}
use Rattle.mt_spawn.specs.declared.task.Left.{Left}
use Rattle.mt_spawn.specs.declared.task.Part.TheVariants as part
use Rattle.mt_spawn.specs.declared.task.Sizes.{Sizes}
use Rattle.mt_spawn.specs.declared.task.Sizes.TheVariants as sizes
use Rattle.mt_records.specs.declared.limits.TheConstants.{END_LEN, LONGEST_HEAD}
use Rattle.mt_records.specs.declared.range.Range.{Range}
use Rattle.mt_records.specs.declared.record.RawRecord.{RawRecord}
use Rattle.mt_records.specs.Fate.{all_records, judged, told_failure}
use Rattle.mt_records.specs.Windows.{Window, record_with}

-- the bytes that a range names
abbrev pub bytes_in : Made → Range → List ℕ
bytes_in made r = take r.len (drop r.from (part_bytes made r.part))

-- the range of a file, by the file's place
abbrev pub range_in : ℕ → ℕ → ℕ → Range
range_in index from len = record { part = part.File index; from = from; len = len }

-- the range of all of standard output
abbrev pub output_range : Left → Range
output_range left = record { part = part.Out; from = 0; len = size_among left.made part.Out }

-- the record that the window of the file at a place shows
abbrev pub range_record : ℕ → Window → Option (RawRecord Range)
range_record index w = record_with (range_in index) w

-- those of windows, the first of the file at this place
unfoldable pub shown : ℕ → List Window → List (Option (RawRecord Range))
shown index [] = []
shown index (w ∷ ws) = range_record index w ∷ shown (index + 1) ws

-- a task that is judged: how many of its files were, and their records, while each is one
pub record Judgement : Type 0 where
  pub login : List ℕ
  pub left : Left
  pub count : ℕ
  pub records : Option (List (RawRecord Range))

abbrev pub unless_failed : Option TaskFailure → Option (List (RawRecord Range))
unless_failed None = Some []
unless_failed (Some failure) = None

-- before the first file
abbrev pub begun : List ℕ → Left → Judgement
begun login left = record { login = login; left = left; count = 0; records = unless_failed (told_failure left) }

abbrev pub sizes_in : Sizes → List FileSize
sizes_in (sizes.Whole out files) = files
sizes_in (sizes.TooLarge total) = []

abbrev pub next_among : Option (List (RawRecord Range)) → List FileSize → ℕ → Option FileSize
next_among None files count = None
next_among (Some rs) files count = slice_get files count

-- the file that is to be looked at; none where the fate shows already
unfoldable pub next_file : Judgement → Option FileSize
next_file j = next_among j.records (sizes_in j.left.made) j.count

-- one record more, if it is one
abbrev pub with_record : Option (List (RawRecord Range)) → Option (RawRecord Range) → Option (List (RawRecord Range))
with_record None r = None
with_record (Some rs) r = option_map (λ x. rs ++ x ∷ []) r

-- one file more, by its window
abbrev pub after_file : Judgement → Window → Judgement
after_file j w = record j { count = j.count + 1; records = with_record j.records (range_record j.count w) }

-- the fate over ranges
abbrev pub fate_of : Judgement → Fate Range
fate_of j = judged j.login j.left (output_range j.left) j.records

-- these windows were looked at, in this order
pub record HasSeen (j : Judgement) (ws : List Window) : Type 0 where
  pub count : length ws ≡ j.count
  pub records : told_failure j.left ≡ None → j.records ≡ all_records (shown 0 ws)
  pub failed : (f : TaskFailure) → told_failure j.left ≡ Some f → j.records ≡ None

-- a window may be one of a file of this size, whatever the file holds
pub record IsWindow (size : FileSize) (w : Window) : Type 0 where
  pub len : w.len ≡ size.len
  pub end : length w.end ≡ min END_LEN w.len
  pub front : min LONGEST_HEAD w.len ≤ length w.front

-- windows of the first files
abbrev pub AreWindows : List FileSize → List Window → Type 0
AreWindows files [] = ⊤
AreWindows [] (w ∷ ws) = ⊥
AreWindows (f ∷ files) (w ∷ ws) = IsWindow f w × AreWindows files ws
