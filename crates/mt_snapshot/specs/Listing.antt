-- How a state is listed, record by record, and which states can be.
use Rattle.std.specs.Prelude.{◌≡◌, ◌≤◌, IsTrue, false, not, List, [], ◌∷◌, ◌++◌, length, map, Some, ⊤}
use Rattle.std.specs.List.{filter, flat_map, sum_by, AllByRecursion}
use Rattle.mt_path.specs.AccountPath.{AccountPath, root_of}
use Rattle.mt_path.specs.declared.area.Area.{Area}
use Rattle.mt_types.specs.Limits.{is_placed}
use Rattle.mt_types.specs.declared.body.Body.{Body}
use Rattle.mt_types.specs.declared.job.Job.{Job}
use Rattle.mt_types.specs.declared.limits.TheConstants.{MOST_COMMANDS}
use Rattle.mt_types.specs.declared.object.Entry.{Entry}
use Rattle.mt_types.specs.declared.object.Entry.TheVariants as entry
use Rattle.mt_types.specs.declared.upload.Upload.{Upload}
use Rattle.mt_model.specs.Bodies.{OfEntry, OfOutcome, OfState}
use Rattle.mt_model.specs.Limits.{most_asset_bytes}
use Rattle.mt_model.specs.Rows.{Rows, at, is_root}
use Rattle.mt_model.specs.State.{State}
use Rattle.mt_model.specs.UploadSteps.{is_open}
use Rattle.mt_snapshot.specs.declared.record.SnapshotRecord.{SnapshotRecord}
use Rattle.mt_snapshot.specs.declared.record.SnapshotRecord.TheVariants as listed
use Rattle.mt_snapshot.specs.Values.{job_record, upload_record}

module _ {B : Type 0} where
  -- the rows but the roots
  abbrev pub listed_rows : Rows B → Rows B
  listed_rows rows = filter (λ r. not (is_root r.0)) rows

  -- the record of a row
  abbrev pub row_record : AccountPath × Entry B → SnapshotRecord B
  row_record r = listed.Row (record { path = r.0; entry = r.1 })

  -- a job, its inputs, its missing lines and its trace
  abbrev pub job_records : Job B → List (SnapshotRecord B)
  job_records j =
      listed.Job (job_record j)
      ∷ (map (λ i. listed.Input i) j.inputs ++ map (λ l. listed.Missing l) j.missing ++ map (λ e. listed.Entry e) j.trace)

  -- an upload, and its parts
  abbrev pub upload_records : Upload B → List (SnapshotRecord B)
  upload_records u = listed.Upload (upload_record u) ∷ map (λ p. listed.Part p) u.parts

  -- a state: how much follows, the rows but the roots, the jobs and the uploads, and the end
  unfoldable pub records_of : State B → List (SnapshotRecord B)
  records_of s =
      listed.Begin s.count (length (listed_rows s.rows)) (length s.jobs) (length s.uploads)
      ∷ (map row_record (listed_rows s.rows) ++ flat_map job_records s.jobs ++ flat_map upload_records s.uploads ++ listed.End ∷ [])

  -- P holds of each body of a record
  abbrev pub OfSnapshot : (B → Type 0) → SnapshotRecord B → Type 0
  OfSnapshot P (listed.Row row) = OfEntry P row.entry
  OfSnapshot P (listed.Job job) = AllByRecursion (AllByRecursion P) job.assets
  OfSnapshot P (listed.Input item) = P item.body
  OfSnapshot P (listed.Entry e) = OfOutcome P e.outcome
  OfSnapshot P (listed.Part part) = P part.body
  OfSnapshot P other = ⊤

-- a body without bytes has the place 0
abbrev pub IsPlaced : Body → Type 0
IsPlaced b = IsTrue (is_placed b)

-- the assets of each phase have few enough bytes
abbrev pub IsLight : Job Body → Type 0
IsLight j = AllByRecursion (λ bodies. sum_by (λ b. b.len) bodies ≤ most_asset_bytes) j.assets

-- an upload that takes no more parts has none
abbrev pub HasNoneOnceEnded : Upload Body → Type 0
HasNoneOnceEnded u = is_open u.stage ≡ false → u.parts ≡ []

-- What a state that can be listed has, besides what is lawful and within the limits of values. The roots are the directories that no
-- record lists.
pub record IsListable (s : State Body) : Type 0 where
  pub count : s.count ≤ MOST_COMMANDS
  pub placed : OfState IsPlaced s
  pub roots : (area : Area) → at s.rows (root_of area) ≡ Some (entry.Directory 0)
  pub light : AllByRecursion IsLight s.jobs
  pub ended : AllByRecursion HasNoneOnceEnded s.uploads
