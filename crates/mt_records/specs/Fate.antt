-- How a task is judged by what it left: the first of five verdicts. What stands for a body may be anything.
use Rattle.std.specs.Prelude.{ℕ, ◌+◌, Bool, true, ◌&&◌, ◌==◌, nat_lt, nat_le, List, [], ◌∷◌, ◌++◌, length, map, take, Option, Some, None, option_map, option_and_then, Result, Ok, Err, if◌then◌else◌}
use Rattle.std.specs.List.{list_any}
use Rattle.std.specs.Option.{ok_or}
use Rattle.std.specs.Result.{result_ok}
use Rattle.mt_path.specs.AccountPath.{AccountPath}
use Rattle.mt_path.specs.Names.{path_of_text}
use Rattle.mt_types.specs.declared.limits.TheConstants.{LARGEST_OUTPUT, LONGEST_STDERR, MOST_RECORDS}
use Rattle.mt_types.specs.declared.task.Fate.{Fate}
use Rattle.mt_types.specs.declared.task.Fate.TheVariants.{Good, Bad}
use Rattle.mt_types.specs.declared.task.Made.{Made}
use Rattle.mt_types.specs.declared.task.Made.TheVariants as made
use Rattle.mt_types.specs.declared.task.Raw.{Raw}
use Rattle.mt_types.specs.declared.task.RecordFile.{RecordFile}
use Rattle.mt_types.specs.declared.task.TaskFailure.{TaskFailure}
use Rattle.mt_types.specs.declared.task.TaskFailure.TheVariants.{UserTaskError, TaskOutputTooLarge, TaskRecordError, TaskPlaceRefused, TaskObjectMissing}
use Rattle.mt_types.specs.declared.task.TaskRecord.{TaskRecord}
use Rattle.mt_types.specs.declared.task.TaskRecord.TheVariants as task
use Rattle.mt_spawn.specs.Orders.{told_of}
use Rattle.mt_spawn.specs.Parts.{part_bytes}
use Rattle.mt_spawn.specs.declared.task.FileSize.{FileSize}
use Rattle.mt_spawn.specs.declared.task.Left.{Left}
use Rattle.mt_spawn.specs.declared.task.Part.TheVariants as part
use Rattle.mt_spawn.specs.declared.task.Sizes.{Sizes}
use Rattle.mt_spawn.specs.declared.task.Sizes.TheVariants as sizes
use Rattle.mt_records.specs.declared.head.RecordHead.{RecordHead}
use Rattle.mt_records.specs.declared.head.RecordHead.TheVariants as head
use Rattle.mt_records.specs.declared.record.RawRecord.{RawRecord}
use Rattle.mt_records.specs.Heads.{is_output}
use Rattle.mt_records.specs.Windows.{record_in}

-- ---- what shows before a file is looked at

-- the bytes of all files together
abbrev pub total_len : List FileSize → ℕ
total_len [] = 0
total_len (f ∷ files) = f.len + total_len files

-- numbers from this one on that rise, each below 4,095
abbrev pub are_numbered : ℕ → List FileSize → Bool
are_numbered least [] = true
are_numbered least (f ∷ files) = nat_le least f.number && (nat_lt f.number MOST_RECORDS && are_numbered (f.number + 1) files)

-- the sizes are too large, or else the numbers do not rise
abbrev pub size_failure : Sizes → Option TaskFailure
size_failure (sizes.TooLarge total) = Some TaskOutputTooLarge
size_failure (sizes.Whole out files) =
    if nat_lt LARGEST_OUTPUT (out + total_len files) then Some TaskOutputTooLarge
    else (if are_numbered 0 files then None else Some TaskRecordError)

-- the failure that is told, if one is: the status comes first
unfoldable pub told_failure : Left → Option TaskFailure
told_failure left = if left.status == 0 then size_failure left.made else Some UserTaskError

-- ---- records

module _ {B : Type 0} where
  -- all of them, if each is one
  unfoldable pub all_records : List (Option (RawRecord B)) → Option (List (RawRecord B))
  all_records [] = Some []
  all_records (r ∷ rs) = option_and_then (λ x. option_map (λ xs. x ∷ xs) (all_records rs)) r

  -- a record that makes an output
  abbrev pub makes_output : RawRecord B → Bool
  makes_output r = is_output r.head

  -- standard output, as a record
  abbrev pub output_record : B → RawRecord B
  output_record out = record { head = head.Emit None None; body = out }

  -- where no record makes an output, standard output is one more
  unfoldable pub with_output : B → List (RawRecord B) → List (RawRecord B)
  with_output out rs = if list_any makes_output rs then rs else rs ++ output_record out ∷ []

-- the path that a text names, if it names one of this account
abbrev pub path_in : List ℕ → List ℕ → Option AccountPath
path_in login text = result_ok (path_of_text login text)

module _ {B : Type 0} (login : List ℕ) where
  -- an output without a place, or with one that is a path
  abbrev pub emitted : Option (List ℕ) → Option ℕ → B → Result (TaskRecord B) TaskFailure
  emitted None reducer body = Ok (task.Emit None reducer body)
  emitted (Some text) reducer body = ok_or (option_map (λ p. task.Emit (Some p) reducer body) (path_in login text)) TaskPlaceRefused

  -- what is asked for, if its place or name is a path
  abbrev pub asked : RecordHead → B → Result (TaskRecord B) TaskFailure
  asked (head.Emit place reducer) body = emitted place reducer body
  asked (head.Keep text) body = ok_or (option_map (λ p. task.Keep p body) (path_in login text)) TaskPlaceRefused
  asked (head.Ref text) body = ok_or (option_map (λ p. task.Ref p) (path_in login text)) TaskObjectMissing

  abbrev pub task_record : RawRecord B → Result (TaskRecord B) TaskFailure
  task_record r = asked r.head r.body

-- what the next step makes of an `Ok`
abbrev pub and_then : {X Y : Type 0} → Result X TaskFailure → (X → Result Y TaskFailure) → Result Y TaskFailure
and_then (Ok x) next = next x
and_then (Err failure) next = Err failure

module _ {B : Type 0} (login : List ℕ) where
  -- what they ask for, or the first failure
  abbrev pub task_records : List (RawRecord B) → Result (List (TaskRecord B)) TaskFailure
  task_records [] = Ok []
  task_records (r ∷ rs) = and_then (task_record login r) (λ t. and_then (task_records rs) (λ ts. Ok (t ∷ ts)))

  -- at most 4,095 records
  abbrev pub few_records : List (RawRecord B) → Result (List (TaskRecord B)) TaskFailure
  few_records rs = if nat_lt MOST_RECORDS (length rs) then Err TaskRecordError else task_records rs

  -- what is asked for by records, where each file is one, and by standard output
  abbrev pub asked_by : B → Option (List (RawRecord B)) → Result (List (TaskRecord B)) TaskFailure
  asked_by out None = Err TaskRecordError
  asked_by out (Some rs) = few_records (with_output out rs)

-- ---- fates

-- a failure with the status and a front of standard error
abbrev pub failed : {B : Type 0} → Left → TaskFailure → Fate B
failed left failure = Bad failure left.status (take LONGEST_STDERR left.stderr)

abbrev pub fate_from : {B : Type 0} → Left → Result (List (TaskRecord B)) TaskFailure → Fate B
fate_from left (Ok records) = Good records
fate_from left (Err failure) = failed left failure

abbrev pub fate_unless : {B : Type 0} → Left → Option TaskFailure → Result (List (TaskRecord B)) TaskFailure → Fate B
fate_unless left (Some failure) asked = failed left failure
fate_unless left None asked = fate_from left asked

-- the fate of a task, by what is told of it, by what stands for its standard output, and by its records
unfoldable pub judged : {B : Type 0} → List ℕ → Left → B → Option (List (RawRecord B)) → Fate B
judged login left out records = fate_unless left (told_failure left) (asked_by login out records)

abbrev pub files_of : Made → List RecordFile
files_of (made.Whole out files) = files
files_of (made.TooLarge total) = []

-- the records of files, if each is one
abbrev pub records_in : List RecordFile → Option (List (RawRecord (List ℕ)))
records_in files = all_records (map (λ f. record_in f.bytes) files)

-- the fate of a raw outcome
unfoldable pub fate : List ℕ → Raw → Fate (List ℕ)
fate login raw = judged login (told_of raw) (part_bytes raw.made part.Out) (records_in (files_of raw.made))
