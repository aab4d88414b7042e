-- Reading each field and each command, by the words of `Reading`: the private side of `decode`.
use Rattle.std.specs.Prelude.{ℕ, ◌*◌, Bool, true, false, ◌&&◌, ◌==◌, nat_le, List, [], ◌∷◌, length, replicate, Option, Some, None, if◌then◌else◌}
use Rattle.std.specs.Int.{w16, w32, w64}
use Rattle.std.specs.Str.{is_utf8}
use Rattle.mt_path.specs.AccountPath.{AccountPath, is_component, local_text}
use Rattle.mt_path.specs.declared.area.Area.{Area}
use Rattle.mt_path.specs.declared.area.Area.TheVariants.{Stor, Public, Jobs}
use Rattle.mt_path.specs.declared.limits.TheConstants.{LONGEST_PATH}
use Rattle.mt_types.specs.declared.body.Body.{Body}
use Rattle.mt_types.specs.declared.object.Field.{Field}
use Rattle.mt_types.specs.declared.document.PhaseKind.{PhaseKind}
use Rattle.mt_types.specs.declared.document.PhaseKind.TheVariants.{Map, Reduce}
use Rattle.mt_types.specs.declared.document.Phase.{Phase}
use Rattle.mt_types.specs.declared.document.JobDocument.{JobDocument}
use Rattle.mt_types.specs.declared.document.InputLine.{InputLine}
use Rattle.mt_types.specs.declared.document.InputLine.TheVariants.{Named, Other}
use Rattle.mt_types.specs.declared.task.TaskRecord.{TaskRecord}
use Rattle.mt_types.specs.declared.task.TaskRecord.TheVariants.{Emit, Keep, Ref}
use Rattle.mt_types.specs.declared.task.TaskFailure.{TaskFailure}
use Rattle.mt_types.specs.declared.task.TaskFailure.TheVariants.{UserTaskError, TaskOutputTooLarge, TaskRecordError, TaskPlaceRefused, TaskObjectMissing}
use Rattle.mt_types.specs.declared.task.Fate.{Fate}
use Rattle.mt_types.specs.declared.task.Fate.TheVariants.{Good, Bad}
use Rattle.mt_types.specs.declared.command.Archive.{Archive}
use Rattle.mt_types.specs.declared.command.Command.{Command}
use Rattle.mt_types.specs.declared.command.Command.TheVariants.{Put, MakeDirectory, Link, Delete, NewJob, AddInputs, EndInput, Commit, Finish, Cancel, Close, NewUpload, PutPart, CommitUpload, AbortUpload}
use Rattle.mt_types.specs.declared.limits.TheConstants.{MOST_METADATA, MOST_PHASES, MOST_ASSETS, MOST_RECORDS, LONGEST_STDERR}
use Rattle.mt_types.specs.Limits.{is_moment, is_number, is_durability, is_count, is_index, is_plain_text, is_content_type, is_job_name, is_command_line, is_line_text, is_metadata_name, is_metadata, is_placed}
use Rattle.mt_codec.specs.Spelling.{is_marked}
use Rattle.mt_codec.specs.Reading.{◌>>=◌, ◌&◌, Reader, made, tested, named, choice, nothing, byte_at, number_at, sized, counted, optional}

-- ---- counts

abbrev pub is_few_fields : ℕ → Bool
is_few_fields n = nat_le n MOST_METADATA

abbrev pub is_few_assets : ℕ → Bool
is_few_assets n = nat_le n MOST_ASSETS

abbrev pub is_few_records : ℕ → Bool
is_few_records n = nat_le n MOST_RECORDS

abbrev pub is_short_stderr : ℕ → Bool
is_short_stderr n = nat_le n LONGEST_STDERR

-- each component has a byte and a slash
abbrev pub is_few_parts : ℕ → Bool
is_few_parts n = nat_le (2 * n) LONGEST_PATH

abbrev pub moment_at : Reader ℕ
moment_at = tested is_moment (number_at w64)

-- a number of a job or of an upload
abbrev pub job_at : Reader ℕ
job_at = tested is_number (number_at w64)

-- ---- paths and bodies

abbrev pub component_at : Reader (List ℕ)
component_at = tested is_component (sized (number_at w16))

abbrev pub area_numbered : ℕ → Option Area
area_numbered n = if n == 0 then Some Stor else (if n == 1 then Some Public else (if n == 2 then Some Jobs else None))

abbrev pub is_short : AccountPath → Bool
is_short p = nat_le (length (local_text p)) LONGEST_PATH

abbrev pub path_of : Area × List (List ℕ) → AccountPath
path_of p = record { area = p.0; parts = p.1 }

unfoldable pub path_at : Reader AccountPath
path_at = tested is_short (made path_of (named area_numbered byte_at & counted (tested is_few_parts (number_at w16)) component_at))

-- bytes of UTF-8 that pass a test
abbrev pub texts : (List ℕ → Bool) → Reader (List ℕ) → Reader (List ℕ)
texts test = tested (λ t. test t && is_utf8 t)

abbrev pub content_type_at : Reader (List ℕ)
content_type_at = tested is_content_type (sized (number_at w16))

abbrev pub body_of : ℕ × ℕ → Body
body_of p = record { first = p.0; len = p.1; md5 = replicate 16 0 }

unfoldable pub body_at : Reader Body
body_at = tested is_placed (made body_of (number_at w64 & number_at w64))

-- ---- what a put has besides

abbrev pub durability_at : Reader (Option ℕ)
durability_at = optional (tested is_durability byte_at)

abbrev pub field_of : List ℕ × List ℕ → Field
field_of p = record { name = p.0; value = p.1 }

unfoldable pub field_at : Reader Field
field_at = made field_of (tested is_metadata_name (sized (number_at w16)) & tested is_plain_text (sized (number_at w16)))

unfoldable pub metadata_at : Reader (List Field)
metadata_at = tested is_metadata (counted (tested is_few_fields byte_at) field_at)

-- ---- documents of jobs

unfoldable pub kind_at : Reader PhaseKind
kind_at = choice 0 (λ bytes. Some (Map, bytes)) (choice 1 (made (λ n. Reduce n) (tested is_count (number_at w32))) nothing)

abbrev pub command_line_at : Reader (List ℕ)
command_line_at = texts is_command_line (sized (number_at w32))

abbrev pub phase_of : (PhaseKind × List ℕ) × Option (List ℕ) → List AccountPath → Phase
phase_of p assets = record { kind = p.0.0; exec = p.0.1; init = p.1; assets = assets }

unfoldable pub phase_at : Reader Phase
phase_at = made (λ p. phase_of p.0 p.1) (kind_at & command_line_at & optional command_line_at & counted (tested is_few_assets byte_at) path_at)

abbrev pub is_phases : ℕ → Bool
is_phases n = nat_le 1 n && nat_le n MOST_PHASES

abbrev pub document_of : List ℕ × List Phase → JobDocument
document_of p = record { name = p.0; phases = p.1 }

unfoldable pub document_at : Reader JobDocument
document_at = made document_of (texts is_job_name (sized (number_at w32)) & counted (tested is_phases byte_at) phase_at)

-- ---- lines and fates

unfoldable pub line_at : Reader InputLine
line_at = choice 0 (made (λ p. Named p) path_at) (choice 1 (made (λ t. Other t) (texts is_line_text (sized (number_at w32)))) nothing)

abbrev pub emit_at : Reader (TaskRecord Body)
emit_at = made (λ p. Emit p.0.0 p.0.1 p.1) (optional path_at & optional (number_at w32) & body_at)

abbrev pub keep_at : Reader (TaskRecord Body)
keep_at = made (λ p. Keep p.0 p.1) (path_at & body_at)

unfoldable pub record_at : Reader (TaskRecord Body)
record_at = choice 1 emit_at (choice 2 keep_at (choice 3 (made (λ p. Ref p) path_at) nothing))

abbrev pub failure_numbered : ℕ → Option TaskFailure
failure_numbered n =
    if n == 1 then Some UserTaskError
    else (if n == 2 then Some TaskOutputTooLarge
    else (if n == 3 then Some TaskRecordError
    else (if n == 4 then Some TaskPlaceRefused
    else (if n == 5 then Some TaskObjectMissing else None))))

abbrev pub good_at : Reader (Fate Body)
good_at = made (λ records. Good records) (counted (tested is_few_records (number_at w16)) record_at)

abbrev pub bad_at : Reader (Fate Body)
bad_at = made (λ p. Bad p.0.0 p.0.1 p.1) (named failure_numbered byte_at & number_at w32 & sized (tested is_short_stderr (number_at w16)))

unfoldable pub fate_at : Reader (Fate Body)
fate_at = choice 0 good_at (choice 1 bad_at nothing)

abbrev pub flag_numbered : ℕ → Option Bool
flag_numbered n = if n == 0 then Some false else (if n == 1 then Some true else None)

abbrev pub archive_of : (((Body × Body) × Body) × Body) × Body → Archive Body
archive_of p = record { err = p.0.0.0.0; fail = p.0.0.0.1; input = p.0.0.1; status = p.0.1; out = p.1 }

unfoldable pub archive_at : Reader (Archive Body)
archive_at = made archive_of (body_at & body_at & body_at & body_at & body_at)

-- ---- commands, behind their first byte

unfoldable pub put_at : Reader (Command Body)
put_at = made (λ p. Put p.0.0.1 p.0.1 p.1 None [] p.0.0.0) (moment_at & path_at & content_type_at & body_at)

-- a put with a durability or metadata
abbrev pub has_marks : ((((ℕ × AccountPath) × List ℕ) × Option ℕ) × List Field) × Body → Bool
has_marks p = is_marked p.0.0.1 p.0.1

unfoldable pub marked_put_at : Reader (Command Body)
marked_put_at =
    made (λ p. Put p.0.0.0.0.1 p.0.0.0.1 p.1 p.0.0.1 p.0.1 p.0.0.0.0.0)
    (tested has_marks (moment_at & path_at & content_type_at & durability_at & metadata_at & body_at))

unfoldable pub make_directory_at : Reader (Command Body)
make_directory_at = made (λ p. MakeDirectory p.1 p.0) (moment_at & path_at)

unfoldable pub link_at : Reader (Command Body)
link_at = made (λ p. Link p.0.1 p.1 p.0.0) (moment_at & path_at & path_at)

unfoldable pub delete_at : Reader (Command Body)
delete_at = made (λ p. Delete p.1 p.0) (moment_at & path_at)

unfoldable pub new_job_at : Reader (Command Body)
new_job_at = made (λ p. NewJob p.1 p.0) (moment_at & document_at)

unfoldable pub add_inputs_at : Reader (Command Body)
add_inputs_at = made (λ p. AddInputs p.0.1 p.1 p.0.0) (moment_at & job_at & counted (number_at w32) line_at)

unfoldable pub end_input_at : Reader (Command Body)
end_input_at = made (λ p. EndInput p.1 p.0) (moment_at & job_at)

unfoldable pub commit_at : Reader (Command Body)
commit_at = made (λ p. Commit p.0.0.0.1 p.0.0.1 p.0.1 p.1 p.0.0.0.0) (moment_at & job_at & number_at w32 & number_at w64 & fate_at)

unfoldable pub finish_at : Reader (Command Body)
finish_at = made (λ p. Finish p.1 p.0) (moment_at & job_at)

unfoldable pub cancel_at : Reader (Command Body)
cancel_at = made (λ p. Cancel p.1 p.0) (moment_at & job_at)

unfoldable pub close_at : Reader (Command Body)
close_at = made (λ p. Close p.0.0.1 p.0.1 p.1 p.0.0.0) (moment_at & job_at & named flag_numbered byte_at & archive_at)

unfoldable pub new_upload_at : Reader (Command Body)
new_upload_at = made (λ p. NewUpload p.0.1 p.1 p.0.0) (moment_at & path_at & content_type_at)

unfoldable pub put_part_at : Reader (Command Body)
put_part_at = made (λ p. PutPart p.0.0.1 p.0.1 p.1 p.0.0.0) (moment_at & job_at & tested is_index (number_at w16) & body_at)

unfoldable pub commit_upload_at : Reader (Command Body)
commit_upload_at = made (λ p. CommitUpload p.0.0.1 p.0.1 p.1 p.0.0.0) (moment_at & job_at & counted (number_at w16) (number_at w64) & body_at)

unfoldable pub abort_upload_at : Reader (Command Body)
abort_upload_at = made (λ p. AbortUpload p.1 p.0) (moment_at & job_at)

-- ---- a command by its first byte

unfoldable pub upload_command_at : Reader (Command Body)
upload_command_at = choice 13 new_upload_at (choice 14 put_part_at (choice 15 commit_upload_at (choice 16 abort_upload_at nothing)))

unfoldable pub job_command_at : Reader (Command Body)
job_command_at =
    choice 5 new_job_at (choice 6 add_inputs_at (choice 7 end_input_at (choice 8 commit_at
    (choice 9 finish_at (choice 10 cancel_at (choice 12 close_at upload_command_at))))))

unfoldable pub command_at : Reader (Command Body)
command_at = choice 1 put_at (choice 2 make_directory_at (choice 3 link_at (choice 4 delete_at (choice 11 marked_put_at job_command_at))))

-- nothing follows the last field
abbrev pub only : Command Body × List ℕ → Option (Command Body)
only (command, []) = Some command
only (command, b ∷ bytes) = None

unfoldable pub whole_command : List ℕ → Option (Command Body)
whole_command bytes = command_at bytes >>= only
