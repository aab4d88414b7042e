-- Reading each record, by the words of `Reading` of mt_codec: the private side of `read_record`.
use Rattle.std.specs.Prelude.{ℕ, Bool, List, [], ◌∷◌, length, Option, Some, None, if◌then◌else◌, ◌==◌}
use Rattle.std.specs.Int.{w16, w32, w64}
use Rattle.mt_path.specs.AccountPath.{AccountPath}
use Rattle.mt_types.specs.Limits.{is_index}
use Rattle.mt_types.specs.declared.body.Body.{Body}
use Rattle.mt_types.specs.declared.document.JobDocument.{JobDocument}
use Rattle.mt_types.specs.declared.document.Phase.{Phase}
use Rattle.mt_types.specs.declared.job.Item.{Item}
use Rattle.mt_types.specs.declared.job.Outcome.{Outcome}
use Rattle.mt_types.specs.declared.job.Outcome.TheVariants as outcome
use Rattle.mt_types.specs.declared.job.TraceEntry.{TraceEntry}
use Rattle.mt_types.specs.declared.object.Entry.{Entry}
use Rattle.mt_types.specs.declared.object.Entry.TheVariants as entry
use Rattle.mt_types.specs.declared.object.Field.{Field}
use Rattle.mt_types.specs.declared.object.Object.{Object}
use Rattle.mt_types.specs.declared.object.Row.{Row}
use Rattle.mt_types.specs.declared.upload.PartRow.{PartRow}
use Rattle.mt_types.specs.declared.upload.Stage.{Stage}
use Rattle.mt_types.specs.declared.upload.Stage.TheVariants.{Open, Committed, Aborted}
use Rattle.mt_codec.specs.Reading.{◌>>=◌, ◌&◌, Reader, made, tested, named, choice, nothing, byte_at, number_at, sized, times, counted, optional}
use Rattle.mt_codec.specs.Readers.{is_few_records, is_short_stderr, moment_at, path_at, texts, content_type_at, body_at, durability_at, metadata_at, document_at, line_at, failure_numbered, flag_numbered}
use Rattle.mt_snapshot.specs.declared.jobs.JobFront.{JobFront}
use Rattle.mt_snapshot.specs.declared.record.JobRecord.{JobRecord}
use Rattle.mt_snapshot.specs.declared.record.SnapshotRecord.{SnapshotRecord}
use Rattle.mt_snapshot.specs.declared.record.SnapshotRecord.TheVariants as listed
use Rattle.mt_snapshot.specs.declared.record.UploadRecord.{UploadRecord}
use Rattle.mt_snapshot.specs.Records.{is_position, is_output_root, is_part_count}

-- a field, and another behind it whose form the first tells
infixl 20 ◌&&&◌
abbrev pub ◌&&&◌ : {A B : Type 0} → Reader A → (A → Reader B) → Reader (A × B)
(f &&& g) bytes = f bytes >>= λ x. g x.0 x.1 >>= λ y. Some ((x.0, y.0), y.1)

-- ---- rows

abbrev pub object_of : ((((ℕ × ℕ) × List ℕ) × Option ℕ) × List Field) × Body → Object Body
object_of p = record { number = p.0.0.0.0.0; body = p.1; content_type = p.0.0.0.1; durability = p.0.0.1; metadata = p.0.1; mtime = p.0.0.0.0.1 }

unfoldable pub object_at : Reader (Object Body)
object_at = made object_of (number_at w64 & moment_at & content_type_at & durability_at & metadata_at & body_at)

unfoldable pub entry_at : Reader (Entry Body)
entry_at = choice 0 (made (λ n. entry.Directory n) moment_at) (choice 1 (made (λ o. entry.Object o) object_at) nothing)

abbrev pub row_of : AccountPath × Entry Body → Row Body
row_of p = record { path = p.0; entry = p.1 }

unfoldable pub row_at : Reader (Row Body)
row_at = made row_of (path_at & entry_at)

-- ---- jobs

abbrev pub front_of : ((((ℕ × JobDocument) × ℕ) × Bool) × Bool) × Option ℕ → JobFront
front_of p = record { number = p.0.0.0.0.0; document = p.0.0.0.0.1; created = p.0.0.0.1; ended = p.0.0.1; cancelled = p.0.1; done = p.1 }

-- the fields before the bodies of assets
unfoldable pub front_at : Reader JobFront
front_at = made front_of (number_at w64 & document_at & moment_at & named flag_numbered byte_at & named flag_numbered byte_at & optional moment_at)

-- the bodies of the assets of each of these phases
unfoldable pub assets_at : List Phase → Reader (List (List Body))
assets_at [] bytes = Some ([], bytes)
assets_at (p ∷ ps) bytes = made (λ q. q.0 ∷ q.1) (times body_at (length p.assets) & assets_at ps) bytes

abbrev pub assets_behind : JobFront → Reader (List (List Body))
assets_behind front = assets_at front.document.phases

abbrev pub job_of : (((JobFront × List (List Body)) × ℕ) × ℕ) × ℕ → JobRecord Body
job_of p = record {
  number = p.0.0.0.0.number;
  document = p.0.0.0.0.document;
  created = p.0.0.0.0.created;
  ended = p.0.0.0.0.ended;
  cancelled = p.0.0.0.0.cancelled;
  done = p.0.0.0.0.done;
  assets = p.0.0.0.1;
  inputs = p.0.0.1;
  missing = p.0.1;
  entries = p.1;
}

unfoldable pub job_at : Reader (JobRecord Body)
job_at = made job_of (front_at &&& assets_behind & number_at w32 & number_at w32 & number_at w64)

-- ---- items and outcomes

abbrev pub root_at : Reader (List ℕ)
root_at = texts is_output_root (sized (number_at w16))

abbrev pub item_of : ((AccountPath × List ℕ) × Option ℕ) × Body → Item Body
item_of p = record { name = p.0.0.0; root = p.0.0.1; body = p.1; reducer = p.0.1 }

unfoldable pub item_at : Reader (Item Body)
item_at = made item_of (path_at & root_at & optional (number_at w32) & body_at)

abbrev pub good_at : Reader (Outcome Body)
good_at = made (λ items. outcome.Good items) (counted (tested is_few_records (number_at w16)) item_at)

abbrev pub bad_at : Reader (Outcome Body)
bad_at = made (λ p. outcome.Bad p.0.0 p.0.1 p.1) (named failure_numbered byte_at & number_at w32 & sized (tested is_short_stderr (number_at w16)))

unfoldable pub outcome_at : Reader (Outcome Body)
outcome_at = choice 0 good_at (choice 1 bad_at nothing)

abbrev pub trace_of : ((ℕ × ℕ) × ℕ) × Outcome Body → TraceEntry Body
trace_of p = record { phase = p.0.0.0; place = p.0.0.1; position = p.0.1; outcome = p.1 }

unfoldable pub trace_at : Reader (TraceEntry Body)
trace_at = made trace_of (number_at w32 & number_at w64 & number_at w64 & outcome_at)

-- ---- uploads

abbrev pub stage_numbered : ℕ → Option Stage
stage_numbered n = if n == 0 then Some Open else (if n == 1 then Some Committed else (if n == 2 then Some Aborted else None))

abbrev pub upload_of : ((((ℕ × AccountPath) × List ℕ) × ℕ) × Stage) × ℕ → UploadRecord
upload_of p = record { number = p.0.0.0.0.0; path = p.0.0.0.0.1; content_type = p.0.0.0.1; moment = p.0.0.1; stage = p.0.1; parts = p.1 }

abbrev pub has_part_count : UploadRecord → Bool
has_part_count u = is_part_count u.stage u.parts

unfoldable pub upload_at : Reader UploadRecord
upload_at = tested has_part_count (made upload_of (number_at w64 & path_at & content_type_at & moment_at & named stage_numbered byte_at & number_at w16))

abbrev pub part_of : (ℕ × ℕ) × Body → PartRow Body
part_of p = record { index = p.0.0; number = p.0.1; body = p.1 }

unfoldable pub part_at : Reader (PartRow Body)
part_at = made part_of (tested is_index (number_at w16) & number_at w64 & body_at)

-- ---- a record by its first byte

unfoldable pub begin_at : Reader (SnapshotRecord Body)
begin_at = made (λ p. listed.Begin p.0.0.0 p.0.0.1 p.0.1 p.1) (tested is_position (number_at w64) & number_at w64 & number_at w64 & number_at w64)

abbrev pub end_at : Reader (SnapshotRecord Body)
end_at bytes = Some (listed.End, bytes)

unfoldable pub later_record_at : Reader (SnapshotRecord Body)
later_record_at =
    choice 69 (made (λ e. listed.Entry e) trace_at) (choice 71 end_at
    (choice 72 (made (λ u. listed.Upload u) upload_at) (choice 73 (made (λ p. listed.Part p) part_at) nothing)))

unfoldable pub record_at : Reader (SnapshotRecord Body)
record_at =
    choice 64 begin_at (choice 65 (made (λ r. listed.Row r) row_at) (choice 66 (made (λ j. listed.Job j) job_at)
    (choice 67 (made (λ i. listed.Input i) item_at) (choice 68 (made (λ l. listed.Missing l) line_at) later_record_at))))

-- nothing follows the last field
abbrev pub only : SnapshotRecord Body × List ℕ → Option (SnapshotRecord Body)
only (r, []) = Some r
only (r, b ∷ bytes) = None

unfoldable pub whole_record : List ℕ → Option (SnapshotRecord Body)
whole_record bytes = record_at bytes >>= only
