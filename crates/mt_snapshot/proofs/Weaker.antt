-- What has a spelling is within its limits.
use Rattle.std.proofs.Common.{ℕ, true, false, List, Option, Some, None}
use Rattle.std.specs.Prelude.{IfSome}
use Rattle.std.specs.List.{AllByRecursion}
use Rattle.mt_types.specs.declared.body.Body.{Body}
use Rattle.mt_types.specs.declared.document.InputLine.{InputLine}
use Rattle.mt_types.specs.declared.document.InputLine.TheVariants.{Named, Other}
use Rattle.mt_types.specs.declared.document.JobDocument.{JobDocument}
use Rattle.mt_types.specs.declared.document.Phase.{Phase}
use Rattle.mt_types.specs.declared.job.Item.{Item}
use Rattle.mt_types.specs.declared.job.Outcome.{Outcome}
use Rattle.mt_types.specs.declared.job.Outcome.TheVariants as outcome
use Rattle.mt_types.specs.declared.object.Entry.{Entry}
use Rattle.mt_types.specs.declared.object.Entry.TheVariants as entry
use Rattle.mt_codec.specs.Spelling.{FitsBody, FitsCommandLine, FitsDocument, FitsLine, FitsPath, FitsPhase}
use Rattle.mt_codec.proofs.Known.{each_from}
use Rattle.mt_snapshot.specs.declared.record.SnapshotRecord.{SnapshotRecord}
use Rattle.mt_snapshot.specs.declared.record.SnapshotRecord.TheVariants as listed
use Rattle.mt_snapshot.specs.Records.{FitsEntry, FitsItem, FitsOutcome, FitsSnapshot}

body_within : (b : Body) → FitsBody true b → FitsBody false b
body_within b h = record { placed = h.placed; first = tt; len = tt }

bodies_within : (bs : List Body) → AllByRecursion (FitsBody true) bs → AllByRecursion (FitsBody false) bs
bodies_within bs h = each_from (FitsBody true) (FitsBody false) body_within bs h

init_within : (init : Option (List ℕ)) → IfSome init (FitsCommandLine true) → IfSome init (FitsCommandLine false)
init_within None h = tt
init_within (Some t) h = (h.0, tt)

phase_within : (p : Phase) → FitsPhase true p → FitsPhase false p
phase_within p h = record { kind = h.kind; exec = (h.exec.0, tt); init = init_within p.init h.init; few = h.few; assets = each_from (FitsPath true) (FitsPath false) (λ q is. tt) p.assets h.assets }

document_within : (d : JobDocument) → FitsDocument true d → FitsDocument false d
document_within d h = record { name = h.name; text = tt; some = h.some; few = h.few; phases = each_from (FitsPhase true) (FitsPhase false) phase_within d.phases h.phases }

line_within : (line : InputLine) → FitsLine true line → FitsLine false line
line_within (Named p) h = tt
line_within (Other t) h = (h.0, h.1, tt)

entry_within : (e : Entry Body) → FitsEntry true e → FitsEntry false e
entry_within (entry.Directory mtime) h = h
entry_within (entry.Object o) h = record { number = tt; mtime = h.mtime; content_type = h.content_type; durability = h.durability; metadata = h.metadata; body = body_within o.body h.body }

item_within : (i : Item Body) → FitsItem true i → FitsItem false i
item_within i h = record { name = tt; root = h.root; text = tt; reducer = tt; body = body_within i.body h.body }

outcome_within : (x : Outcome Body) → FitsOutcome true x → FitsOutcome false x
outcome_within (outcome.Good items) h = (h.0, each_from (FitsItem true) (FitsItem false) item_within items h.1)
outcome_within (outcome.Bad failure status stderr) h = (tt, h.1)

pub within_limits : (r : SnapshotRecord Body) → FitsSnapshot true r → FitsSnapshot false r
within_limits (listed.Begin count rows jobs uploads) h = (h.0, tt)
within_limits (listed.Row row) h = record { path = tt; entry = entry_within row.entry h.entry }
within_limits (listed.Job job) h = record {
  number = tt;
  document = document_within job.document h.document;
  created = h.created;
  done = h.done;
  shape = h.shape;
  assets = each_from (AllByRecursion (FitsBody true)) (AllByRecursion (FitsBody false)) bodies_within job.assets h.assets;
  inputs = h.inputs;
  missing = h.missing;
  entries = tt;
}
within_limits (listed.Input item) h = item_within item h
within_limits (listed.Missing line) h = line_within line h
within_limits (listed.Entry e) h = record { phase = tt; place = tt; position = tt; outcome = outcome_within e.outcome h.outcome }
within_limits (listed.Upload upload) h = record { number = tt; path = tt; content_type = h.content_type; moment = h.moment; parts = h.parts }
within_limits (listed.Part part) h = record { index = h.index; number = tt; body = body_within part.body h.body }
within_limits listed.End h = tt
