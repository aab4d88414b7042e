-- What the two commands of a drill's job give.
use Rattle.std.specs.Prelude.{ℕ, ◌==◌, Bool, List, [], ◌∷◌, ◌++◌, length, map, codes, bytes_eq, Some, None, if◌then◌else◌}
use Rattle.std.specs.Fmt.{decimal}
use Rattle.std.specs.List.{filter, range_with_len}
use Rattle.mt_types.specs.declared.task.Made.TheVariants as made
use Rattle.mt_types.specs.declared.task.Raw.{Raw}
use Rattle.mt_types.specs.declared.task.RecordFile.{RecordFile}
use Rattle.mt_types.specs.declared.task.Run.{Run}
use Rattle.mt_split.specs.Partition.{part_of}
use Rattle.mt_split.specs.declared.key.KeyRule.TheVariants.{Line}
use Rattle.mt_records.specs.Records.{record_bytes}
use Rattle.mt_records.specs.declared.head.RecordHead.TheVariants.{Emit}

-- a child that ended with this status, wrote these bytes and left these files
abbrev pub raw_with : ℕ → List ℕ → List RecordFile → Raw
raw_with status out files = record { status = status; stderr = []; made = made.Whole out files }

-- the lines of an input for a reducer, of four, as a record file
abbrev pub part_file : List ℕ → ℕ → RecordFile
part_file input r = record { number = r; bytes = record_bytes (record { head = Emit None (Some r); body = part_of input 4 Line r }) }

-- each reducer's lines in a file of its own, as `msplit -n 4` leaves them
abbrev pub split_files : List ℕ → List RecordFile
split_files input = map (part_file input) (range_with_len 0 4)

abbrev pub is_line_feed : ℕ → Bool
is_line_feed byte = byte == 10

-- how many lines an input has
abbrev pub line_count : List ℕ → ℕ
line_count input = length (filter is_line_feed input)

abbrev pub counted : List ℕ → List ℕ
counted input = decimal (line_count input) ++ 10 ∷ []

-- what a command gives: `split` and `count`; a shell knows no other
abbrev pub drill_raw : List ℕ → List ℕ → Raw
drill_raw exec input =
    if bytes_eq exec (codes "split") then raw_with 0 [] (split_files input)
    else (if bytes_eq exec (codes "count") then raw_with 0 (counted input) [] else raw_with 127 [] [])

abbrev pub raw_of_drill : Run → List ℕ → Bool → Raw
raw_of_drill run input otherwise = drill_raw run.exec input
