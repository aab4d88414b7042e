-- How records of a snapshot are spelled, which have a spelling, and records apart from the digests of their bodies.
use Rattle.std.specs.Prelude.{◌≡◌, ℕ, ◌<◌, ◌≤◌, ◌^◌, Bool, true, ◌&&◌, ◌==◌, nat_le, ⊤, IsTrue, List, [], ◌∷◌, ◌++◌, length, map, IfSome}
use Rattle.std.specs.List.{flat_map, AllByRecursion}
use Rattle.mt_base.specs.Numbers.{big_endian_16, big_endian_32, big_endian_64}
use Rattle.mt_path.specs.AccountPath.{is_component}
use Rattle.mt_types.specs.Limits.{is_content_type, is_durability, is_index, is_moment, FitsMetadata}
use Rattle.mt_types.specs.declared.body.Body.{Body}
use Rattle.mt_types.specs.declared.job.Item.{Item}
use Rattle.mt_types.specs.declared.job.Outcome.{Outcome}
use Rattle.mt_types.specs.declared.job.Outcome.TheVariants as outcome
use Rattle.mt_types.specs.declared.job.TraceEntry.{TraceEntry}
use Rattle.mt_types.specs.declared.limits.TheConstants.{LONGEST_STDERR, MOST_COMMANDS, MOST_RECORDS}
use Rattle.mt_types.specs.declared.object.Entry.{Entry}
use Rattle.mt_types.specs.declared.object.Entry.TheVariants as entry
use Rattle.mt_types.specs.declared.object.Object.{Object}
use Rattle.mt_types.specs.declared.object.Row.{Row}
use Rattle.mt_types.specs.declared.upload.PartRow.{PartRow}
use Rattle.mt_types.specs.declared.upload.Stage.{Stage}
use Rattle.mt_types.specs.declared.upload.Stage.TheVariants.{Open, Committed, Aborted}
use Rattle.mt_codec.specs.Fields.{text_spelling, path_spelling, body_spelling, optional_spelling}
use Rattle.mt_codec.specs.Spelling.{byte_spelling, document_spelling, failure_number, flag_number, line_spelling, metadata_spelling, undigested_body, Typed, FitsBody, FitsDocument, FitsLine, FitsPath, FitsReducer, FitsText}
use Rattle.mt_snapshot.specs.declared.limits.TheConstants.{LONGEST_ROOT, MOST_PARTS}
use Rattle.mt_snapshot.specs.declared.record.JobRecord.{JobRecord}
use Rattle.mt_snapshot.specs.declared.record.SnapshotRecord.{SnapshotRecord}
use Rattle.mt_snapshot.specs.declared.record.SnapshotRecord.TheVariants as listed
use Rattle.mt_snapshot.specs.declared.record.UploadRecord.{UploadRecord}
use Rattle.mt_snapshot.specs.Values.{snapshot_with}

-- ---- the grammar: each field, one after the other

-- number, moment, content type, durability, metadata, body
unfoldable pub object_spelling : Object Body → List ℕ
object_spelling o =
    big_endian_64 o.number ++ big_endian_64 o.mtime ++ text_spelling o.content_type ++ optional_spelling byte_spelling o.durability
    ++ metadata_spelling o.metadata ++ body_spelling o.body

-- a directory is a 0 and its moment, an object a 1 and its fields
unfoldable pub entry_spelling : Entry Body → List ℕ
entry_spelling (entry.Directory mtime) = 0 ∷ big_endian_64 mtime
entry_spelling (entry.Object object) = 1 ∷ object_spelling object

-- the path, and what stands there
unfoldable pub row_spelling : Row Body → List ℕ
row_spelling r = path_spelling r.path ++ entry_spelling r.entry

-- the bodies of the assets of all phases, one behind the other: the document says how many each phase has
abbrev pub assets_spelling : List (List Body) → List ℕ
assets_spelling assets = flat_map (λ bodies. flat_map body_spelling bodies) assets

-- number, document, moments, flags, the bodies of all assets, and the lengths of the lists
unfoldable pub job_spelling : JobRecord Body → List ℕ
job_spelling j =
    big_endian_64 j.number ++ document_spelling j.document ++ big_endian_64 j.created ++ byte_spelling (flag_number j.ended)
    ++ byte_spelling (flag_number j.cancelled) ++ optional_spelling big_endian_64 j.done ++ assets_spelling j.assets
    ++ big_endian_32 j.inputs ++ big_endian_32 j.missing ++ big_endian_64 j.entries

-- name, root, perhaps the number of a reducer, body
unfoldable pub item_spelling : Item Body → List ℕ
item_spelling i = path_spelling i.name ++ text_spelling i.root ++ optional_spelling big_endian_32 i.reducer ++ body_spelling i.body

-- outputs are a 0, how many and each; a failure is a 1, its number, the status and a front of standard error
unfoldable pub outcome_spelling : Outcome Body → List ℕ
outcome_spelling (outcome.Good items) = 0 ∷ (big_endian_16 (length items) ++ flat_map item_spelling items)
outcome_spelling (outcome.Bad failure status stderr) = 1 ∷ (byte_spelling (failure_number failure) ++ big_endian_32 status ++ text_spelling stderr)

-- phase, place, position, and what it came to
unfoldable pub trace_spelling : TraceEntry Body → List ℕ
trace_spelling e = big_endian_32 e.phase ++ big_endian_64 e.place ++ big_endian_64 e.position ++ outcome_spelling e.outcome

-- the byte of a stage
abbrev pub stage_number : Stage → ℕ
stage_number Open = 0
stage_number Committed = 1
stage_number Aborted = 2

-- number, path, content type, moment, stage, how many parts
unfoldable pub upload_spelling : UploadRecord → List ℕ
upload_spelling u =
    big_endian_64 u.number ++ path_spelling u.path ++ text_spelling u.content_type ++ big_endian_64 u.moment
    ++ byte_spelling (stage_number u.stage) ++ big_endian_16 u.parts

-- index, number, body
unfoldable pub part_spelling : PartRow Body → List ℕ
part_spelling p = big_endian_16 p.index ++ big_endian_64 p.number ++ body_spelling p.body

-- the one spelling of a record
unfoldable pub snapshot_spelling : SnapshotRecord Body → List ℕ
snapshot_spelling (listed.Begin count rows jobs uploads) = 64 ∷ (big_endian_64 count ++ big_endian_64 rows ++ big_endian_64 jobs ++ big_endian_64 uploads)
snapshot_spelling (listed.Row row) = 65 ∷ row_spelling row
snapshot_spelling (listed.Job job) = 66 ∷ job_spelling job
snapshot_spelling (listed.Input item) = 67 ∷ item_spelling item
snapshot_spelling (listed.Missing line) = 68 ∷ line_spelling line
snapshot_spelling (listed.Entry e) = 69 ∷ trace_spelling e
snapshot_spelling listed.End = 71 ∷ []
snapshot_spelling (listed.Upload upload) = 72 ∷ upload_spelling upload
snapshot_spelling (listed.Part part) = 73 ∷ part_spelling part

-- ---- which records have a spelling

-- the number of commands of an account
abbrev pub is_position : ℕ → Bool
is_position n = nat_le n MOST_COMMANDS

-- a component of at most 200 bytes
abbrev pub is_output_root : List ℕ → Bool
is_output_root t = nat_le (length t) LONGEST_ROOT && is_component t

-- an upload that is not open has no part
abbrev pub is_part_count : Stage → ℕ → Bool
is_part_count Open n = nat_le n MOST_PARTS
is_part_count Committed n = n == 0
is_part_count Aborted n = n == 0

-- an object's fields
pub record FitsObject (typed : Bool) (o : Object Body) : Type 0 where
  pub number : Typed typed (o.number < 2 ^ 64)
  pub mtime : IsTrue (is_moment o.mtime)
  pub content_type : IsTrue (is_content_type o.content_type)
  pub durability : IfSome o.durability (λ n. IsTrue (is_durability n))
  pub metadata : FitsMetadata o.metadata
  pub body : FitsBody typed o.body

-- a directory's moment, or an object's fields
abbrev pub FitsEntry : Bool → Entry Body → Type 0
FitsEntry typed (entry.Directory mtime) = IsTrue (is_moment mtime)
FitsEntry typed (entry.Object object) = FitsObject typed object

-- the path, and what stands there
pub record FitsRow (typed : Bool) (r : Row Body) : Type 0 where
  pub path : FitsPath typed r.path
  pub entry : FitsEntry typed r.entry

-- a job's fields: each phase has as many bodies as its document names assets
pub record FitsJob (typed : Bool) (j : JobRecord Body) : Type 0 where
  pub number : Typed typed (j.number < 2 ^ 64)
  pub document : FitsDocument typed j.document
  pub created : IsTrue (is_moment j.created)
  pub done : IfSome j.done (λ n. IsTrue (is_moment n))
  pub shape : map (λ p. length p.assets) j.document.phases ≡ map length j.assets
  pub assets : AllByRecursion (AllByRecursion (FitsBody typed)) j.assets
  pub inputs : j.inputs < 2 ^ 32
  pub missing : j.missing < 2 ^ 32
  pub entries : Typed typed (j.entries < 2 ^ 64)

-- an item's fields
pub record FitsItem (typed : Bool) (i : Item Body) : Type 0 where
  pub name : FitsPath typed i.name
  pub root : IsTrue (is_output_root i.root)
  pub text : FitsText typed i.root
  pub reducer : FitsReducer typed i.reducer
  pub body : FitsBody typed i.body

-- few enough outputs, or a short front of standard error
abbrev pub FitsOutcome : Bool → Outcome Body → Type 0
FitsOutcome typed (outcome.Good items) = (length items ≤ MOST_RECORDS) × AllByRecursion (FitsItem typed) items
FitsOutcome typed (outcome.Bad failure status stderr) = Typed typed (status < 2 ^ 32) × (length stderr ≤ LONGEST_STDERR)

-- the fields of a committed task
pub record FitsTrace (typed : Bool) (e : TraceEntry Body) : Type 0 where
  pub phase : Typed typed (e.phase < 2 ^ 32)
  pub place : Typed typed (e.place < 2 ^ 64)
  pub position : Typed typed (e.position < 2 ^ 64)
  pub outcome : FitsOutcome typed e.outcome

-- an upload's fields
pub record FitsUpload (typed : Bool) (u : UploadRecord) : Type 0 where
  pub number : Typed typed (u.number < 2 ^ 64)
  pub path : FitsPath typed u.path
  pub content_type : IsTrue (is_content_type u.content_type)
  pub moment : IsTrue (is_moment u.moment)
  pub parts : IsTrue (is_part_count u.stage u.parts)

-- a part's fields
pub record FitsPart (typed : Bool) (p : PartRow Body) : Type 0 where
  pub index : IsTrue (is_index p.index)
  pub number : Typed typed (p.number < 2 ^ 64)
  pub body : FitsBody typed p.body

-- each field of a record is within its limits; where it is typed, also within what the program's values keep
abbrev pub FitsSnapshot : Bool → SnapshotRecord Body → Type 0
FitsSnapshot typed (listed.Begin count rows jobs uploads) = IsTrue (is_position count) × Typed typed ((rows < 2 ^ 64) × (jobs < 2 ^ 64) × (uploads < 2 ^ 64))
FitsSnapshot typed (listed.Row row) = FitsRow typed row
FitsSnapshot typed (listed.Job job) = FitsJob typed job
FitsSnapshot typed (listed.Input item) = FitsItem typed item
FitsSnapshot typed (listed.Missing line) = FitsLine typed line
FitsSnapshot typed (listed.Entry e) = FitsTrace typed e
FitsSnapshot typed listed.End = ⊤
FitsSnapshot typed (listed.Upload upload) = FitsUpload typed upload
FitsSnapshot typed (listed.Part part) = FitsPart typed part

-- ---- records apart from digests

-- the record with sixteen zero bytes in the place of each digest
abbrev pub undigested_snapshot : SnapshotRecord Body → SnapshotRecord Body
undigested_snapshot = snapshot_with undigested_body

-- the bytes spell this record, which has no digests
pub record SpellsRecord (bytes : List ℕ) (r : SnapshotRecord Body) : Type 0 where
  pub bytes_are : bytes ≡ snapshot_spelling r
  pub fits : FitsSnapshot true r
  pub plain : undigested_snapshot r ≡ r
