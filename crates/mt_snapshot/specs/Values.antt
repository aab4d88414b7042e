-- Records of a snapshot over other bodies: what stays is all but the bodies, and each body goes to another.
use Rattle.std.specs.Prelude.{ℕ, length, map}
use Rattle.mt_types.specs.Values.{entry_with, item_with, part_with, trace_entry_with}
use Rattle.mt_types.specs.declared.body.Body.{Body}
use Rattle.mt_types.specs.declared.job.Job.{Job}
use Rattle.mt_types.specs.declared.object.Row.{Row}
use Rattle.mt_types.specs.declared.upload.Upload.{Upload}
use Rattle.mt_snapshot.specs.declared.record.JobRecord.{JobRecord}
use Rattle.mt_snapshot.specs.declared.record.SnapshotRecord.{SnapshotRecord}
use Rattle.mt_snapshot.specs.declared.record.SnapshotRecord.TheVariants as listed
use Rattle.mt_snapshot.specs.declared.record.UploadRecord.{UploadRecord}

module _ {A B : Type 0} (f : A → B) where
  -- what stands at a path
  abbrev pub row_with : Row A → Row B
  row_with r = record { path = r.path; entry = entry_with f r.entry }

  -- a job, but its lists
  abbrev pub job_record_with : JobRecord A → JobRecord B
  job_record_with j = record {
    number = j.number;
    document = j.document;
    created = j.created;
    ended = j.ended;
    cancelled = j.cancelled;
    done = j.done;
    assets = map (map f) j.assets;
    inputs = j.inputs;
    missing = j.missing;
    entries = j.entries;
  }

  -- a record
  abbrev pub snapshot_with : SnapshotRecord A → SnapshotRecord B
  snapshot_with (listed.Begin count rows jobs uploads) = listed.Begin count rows jobs uploads
  snapshot_with (listed.Row row) = listed.Row (row_with row)
  snapshot_with (listed.Job job) = listed.Job (job_record_with job)
  snapshot_with (listed.Input item) = listed.Input (item_with f item)
  snapshot_with (listed.Missing line) = listed.Missing line
  snapshot_with (listed.Entry entry) = listed.Entry (trace_entry_with f entry)
  snapshot_with (listed.Upload upload) = listed.Upload upload
  snapshot_with (listed.Part part) = listed.Part (part_with f part)
  snapshot_with listed.End = listed.End

-- a body that stands at another place
abbrev pub moved : (Body → ℕ) → Body → Body
moved place b = record { first = place b; len = b.len; md5 = b.md5 }

module _ {B : Type 0} where
  -- the record of a job
  abbrev pub job_record : Job B → JobRecord B
  job_record j = record {
    number = j.number;
    document = j.document;
    created = j.created;
    ended = j.ended;
    cancelled = j.cancelled;
    done = j.done;
    assets = j.assets;
    inputs = length j.inputs;
    missing = length j.missing;
    entries = length j.trace;
  }

  -- the record of an upload
  abbrev pub upload_record : Upload B → UploadRecord
  upload_record u = record { number = u.number; path = u.path; content_type = u.content_type; moment = u.moment; stage = u.stage; parts = length u.parts }
