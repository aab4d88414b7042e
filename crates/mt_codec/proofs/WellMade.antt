-- What has a spelling is well made.
use Rattle.std.proofs.Common.{ℕ, true, List, Option, Some, None}
use Rattle.std.specs.Prelude.{IfSome, IsTrue}
use Rattle.std.specs.List.{AllByRecursion}
use Rattle.mt_path.specs.AccountPath.{AccountPath, IsPath}
use Rattle.mt_types.specs.Limits.{is_command_line}
use Rattle.mt_types.specs.WellMade.{HasReducers, IsDocument, IsDocumentPhase, IsWellMade, IsWellMadeFate, IsWellMadeLine, IsWellMadeRecord}
use Rattle.mt_types.specs.declared.body.Body.{Body}
use Rattle.mt_types.specs.declared.command.Command.{Command}
use Rattle.mt_types.specs.declared.command.Command.TheVariants.{Put, MakeDirectory, Link, Delete, NewJob, AddInputs, EndInput, Commit, Finish, Cancel, Close, NewUpload, PutPart, CommitUpload, AbortUpload}
use Rattle.mt_types.specs.declared.document.InputLine.{InputLine}
use Rattle.mt_types.specs.declared.document.InputLine.TheVariants.{Named, Other}
use Rattle.mt_types.specs.declared.document.JobDocument.{JobDocument}
use Rattle.mt_types.specs.declared.document.Phase.{Phase}
use Rattle.mt_types.specs.declared.document.PhaseKind.{PhaseKind}
use Rattle.mt_types.specs.declared.document.PhaseKind.TheVariants.{Map, Reduce}
use Rattle.mt_types.specs.declared.task.Fate.{Fate}
use Rattle.mt_types.specs.declared.task.Fate.TheVariants.{Good, Bad}
use Rattle.mt_types.specs.declared.task.TaskRecord.{TaskRecord}
use Rattle.mt_types.specs.declared.task.TaskRecord.TheVariants.{Emit, Keep, Ref}
use Rattle.mt_codec.specs.Spelling.{FitsCommandLine, FitsDocument, FitsFate, FitsFields, FitsKind, FitsLine, FitsPath, FitsPhase, FitsRecord, HasSpelling}
use Rattle.mt_codec.proofs.Known.{each_from}

kind_made : (k : PhaseKind) → FitsKind k → HasReducers k
kind_made Map h = tt
kind_made (Reduce count) h = h

init_made : (init : Option (List ℕ)) → IfSome init (FitsCommandLine true) → IfSome init (λ t. IsTrue (is_command_line t))
init_made None h = tt
init_made (Some t) h = h.0

phase_made : (p : Phase) → FitsPhase true p → IsDocumentPhase p
phase_made p h = record {
  kind = kind_made p.kind h.kind;
  exec = h.exec.0;
  init = init_made p.init h.init;
  few = h.few;
  assets = each_from (FitsPath true) IsPath (λ q is. is) p.assets h.assets;
}

document_made : (d : JobDocument) → FitsDocument true d → IsDocument d
document_made d h = record { some = h.some; few = h.few; phases = each_from (FitsPhase true) IsDocumentPhase phase_made d.phases h.phases }

line_made : (line : InputLine) → FitsLine true line → IsWellMadeLine line
line_made (Named p) h = h
line_made (Other t) h = tt

place_made : (place : Option AccountPath) → IfSome place (FitsPath true) → IfSome place IsPath
place_made None h = tt
place_made (Some p) h = h

record_made : (r : TaskRecord Body) → FitsRecord true r → IsWellMadeRecord r
record_made (Emit place reducer body) h = place_made place h.0
record_made (Keep place body) h = h.0
record_made (Ref name) h = h

fate_made : (fate : Fate Body) → FitsFate true fate → IsWellMadeFate fate
fate_made (Good records) h = (h.0, each_from (FitsRecord true) IsWellMadeRecord record_made records h.1)
fate_made (Bad failure status stderr) h = tt

fields_made : (c : Command Body) → FitsFields true c → IsWellMade c
fields_made (Put path content_type body durability metadata moment) h = h.path
fields_made (MakeDirectory path moment) h = h
fields_made (Link path source moment) h = h
fields_made (Delete path moment) h = h
fields_made (NewJob document moment) h = document_made document h
fields_made (AddInputs job lines moment) h = each_from (FitsLine true) IsWellMadeLine line_made lines h.2
fields_made (EndInput job moment) h = tt
fields_made (Commit job phase place fate moment) h = fate_made fate h.2
fields_made (Finish job moment) h = tt
fields_made (Cancel job moment) h = tt
fields_made (Close job cancelled archive moment) h = tt
fields_made (NewUpload path content_type moment) h = h.0
fields_made (PutPart upload index body moment) h = h.1
fields_made (CommitUpload upload parts body moment) h = tt
fields_made (AbortUpload upload moment) h = tt

pub well_made : (c : Command Body) → HasSpelling c → IsWellMade c
well_made c h = fields_made c h.fields
