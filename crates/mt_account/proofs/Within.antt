-- What has a spelling is within the limits of the state.
use Rattle.std.proofs.Common.{ℕ, true, List, Option, Some, None}
use Rattle.std.specs.Prelude.{IfSome, IsTrue}
use Rattle.mt_types.specs.Limits.{is_command_line}
use Rattle.mt_types.specs.declared.body.Body.{Body}
use Rattle.mt_types.specs.declared.command.Command.{Command}
use Rattle.mt_types.specs.declared.command.Command.TheVariants.{Put, MakeDirectory, Link, Delete, NewJob, AddInputs, EndInput, Commit, Finish, Cancel, Close, NewUpload, PutPart, CommitUpload, AbortUpload}
use Rattle.mt_types.specs.declared.document.InputLine.{InputLine}
use Rattle.mt_types.specs.declared.document.InputLine.TheVariants.{Named, Other}
use Rattle.mt_types.specs.declared.document.Phase.{Phase}
use Rattle.mt_types.specs.declared.task.Fate.{Fate}
use Rattle.mt_types.specs.declared.task.Fate.TheVariants.{Good, Bad}
use Rattle.mt_types.specs.declared.task.TaskRecord.{TaskRecord}
use Rattle.mt_types.specs.declared.task.TaskRecord.TheVariants.{Emit, Keep, Ref}
use Rattle.mt_codec.specs.Spelling.{FitsCommandLine, FitsFate, FitsLine, FitsPhase, FitsRecord, HasSpelling}
use Rattle.mt_codec.proofs.Known.{each_from}
use Rattle.mt_model.specs.Keeping.{IsLine, IsPhase, IsSaidFate, IsSaidRecord, SaysWithin}

init_said : (init : Option (List ℕ)) → IfSome init (FitsCommandLine true) → IfSome init (λ t. IsTrue (is_command_line t))
init_said None h = tt
init_said (Some t) h = h.0

phase_said : (p : Phase) → FitsPhase true p → IsPhase p
phase_said p h = record { exec = h.exec.0; init = init_said p.init h.init }

line_said : (line : InputLine) → FitsLine true line → IsLine line
line_said (Named p) h = tt
line_said (Other t) h = (h.0, h.1)

record_said : (r : TaskRecord Body) → FitsRecord true r → IsSaidRecord r
record_said (Emit place reducer body) h = h.1
record_said (Keep place body) h = tt
record_said (Ref name) h = tt

fate_said : (x : Fate Body) → FitsFate true x → IsSaidFate x
fate_said (Good records) h = each_from (FitsRecord true) IsSaidRecord record_said records h.1
fate_said (Bad failure status stderr) h = h.1

pub says_within : (c : Command Body) → HasSpelling c → SaysWithin c
says_within (Put path content_type body durability metadata moment) is = record {
  content_type_is = is.fields.content_type;
  durability_is = is.fields.durability;
  metadata_is = is.fields.metadata;
  moment_is = is.moment;
}
says_within (MakeDirectory path moment) is = is.moment
says_within (Link path source moment) is = is.moment
says_within (Delete path moment) is = tt
says_within (NewJob document moment) is = (is.moment, record { name = is.fields.name; phases = each_from (FitsPhase true) IsPhase phase_said document.phases is.fields.phases })
says_within (AddInputs job lines moment) is = each_from (FitsLine true) IsLine line_said lines is.fields.2
says_within (EndInput job moment) is = tt
says_within (Commit job phase place fate moment) is = (is.moment, fate_said fate is.fields.2)
says_within (Finish job moment) is = is.moment
says_within (Cancel job moment) is = is.moment
says_within (Close job cancelled archive moment) is = is.moment
says_within (NewUpload path content_type moment) is = (is.fields.1, is.moment)
says_within (PutPart upload index body moment) is = tt
says_within (CommitUpload upload parts body moment) is = is.moment
says_within (AbortUpload upload moment) is = tt
