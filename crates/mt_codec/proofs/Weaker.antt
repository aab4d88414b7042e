-- What has a spelling is within its limits; digests are not spelled; no command is a piece.
use Rattle.std.proofs.Common.{◌≡◌, ℕ, suc, true, false, List, [], ◌∷◌, ◌++◌, map, length, Option, Some, None, refl, ap}
use Rattle.std.specs.Prelude.{IfSome}
use Rattle.std.specs.List.{flat_map, AllByRecursion}
use Rattle.mt_base.specs.Numbers.{big_endian_16, big_endian_32, big_endian_64}
use Rattle.mt_path.specs.AccountPath.{AccountPath}
use Rattle.mt_types.specs.declared.body.Body.{Body}
use Rattle.mt_types.specs.declared.document.Phase.{Phase}
use Rattle.mt_types.specs.declared.document.JobDocument.{JobDocument}
use Rattle.mt_types.specs.declared.document.InputLine.{InputLine}
use Rattle.mt_types.specs.declared.document.InputLine.TheVariants.{Named, Other}
use Rattle.mt_types.specs.declared.task.TaskRecord.{TaskRecord}
use Rattle.mt_types.specs.declared.task.TaskRecord.TheVariants.{Emit, Keep, Ref}
use Rattle.mt_types.specs.declared.task.Fate.{Fate}
use Rattle.mt_types.specs.declared.task.Fate.TheVariants.{Good, Bad}
use Rattle.mt_types.specs.declared.command.Archive.{Archive}
use Rattle.mt_types.specs.declared.command.Command.{Command}
use Rattle.mt_types.specs.declared.command.Command.TheVariants.{Put, MakeDirectory, Link, Delete, NewJob, AddInputs, EndInput, Commit, Finish, Cancel, Close, NewUpload, PutPart, CommitUpload, AbortUpload}
use Rattle.mt_codec.specs.Spelling.{archive_spelling, record_spelling, fate_spelling, spelling, FitsBody, FitsCommandLine, FitsPath, FitsPhase, FitsDocument, FitsLine, FitsRecord, FitsFate, FitsArchive, FitsFields, HasSpelling, IsWithinLimits, undigested}
use Rattle.mt_codec.proofs.Digests.{undigested_record, undigested_fate}
use Rattle.mt_codec.specs.Pieces.{is_piece}
use Rattle.mt_codec.proofs.Known.{each_from}

-- ---- limits alone

body_within : (b : Body) → FitsBody true b → FitsBody false b
body_within b h = record { placed = h.placed; first = tt; len = tt }

paths_within : (ps : List AccountPath) → AllByRecursion (FitsPath true) ps → AllByRecursion (FitsPath false) ps
paths_within ps h = each_from (FitsPath true) (FitsPath false) (λ p is. tt) ps h

init_within : (init : Option (List ℕ)) → IfSome init (FitsCommandLine true) → IfSome init (FitsCommandLine false)
init_within None h = tt
init_within (Some t) h = (h.0, tt)

phase_within : (p : Phase) → FitsPhase true p → FitsPhase false p
phase_within p h = record { kind = h.kind; exec = (h.exec.0, tt); init = init_within p.init h.init; few = h.few; assets = paths_within p.assets h.assets }

document_within : (d : JobDocument) → FitsDocument true d → FitsDocument false d
document_within d h = record { name = h.name; text = tt; some = h.some; few = h.few; phases = each_from (FitsPhase true) (FitsPhase false) phase_within d.phases h.phases }

line_within : (line : InputLine) → FitsLine true line → FitsLine false line
line_within (Named p) h = tt
line_within (Other t) h = (h.0, h.1, tt)

place_within : (place : Option AccountPath) → IfSome place (FitsPath false)
place_within None = tt
place_within (Some p) = tt

record_within : (r : TaskRecord Body) → FitsRecord true r → FitsRecord false r
record_within (Emit place reducer body) h = (place_within place, tt, body_within body h.2)
record_within (Keep place body) h = (tt, body_within body h.1)
record_within (Ref name) h = tt

fate_within : (fate : Fate Body) → FitsFate true fate → FitsFate false fate
fate_within (Good records) h = (h.0, each_from (FitsRecord true) (FitsRecord false) record_within records h.1)
fate_within (Bad failure status stderr) h = (tt, h.1)

archive_within : (a : Archive Body) → FitsArchive true a → FitsArchive false a
archive_within a h = record { err = body_within a.err h.err; fail = body_within a.fail h.fail; input = body_within a.input h.input; status = body_within a.status h.status; out = body_within a.out h.out }

fields_within : (c : Command Body) → FitsFields true c → FitsFields false c
fields_within (Put path content_type body durability metadata moment) h = record { path = tt; content_type = h.content_type; body = body_within body h.body; durability = h.durability; metadata = h.metadata }
fields_within (MakeDirectory path moment) h = tt
fields_within (Link path source moment) h = (tt, tt)
fields_within (Delete path moment) h = tt
fields_within (NewJob document moment) h = document_within document h
fields_within (AddInputs job lines moment) h = (h.0, h.1, each_from (FitsLine true) (FitsLine false) line_within lines h.2)
fields_within (EndInput job moment) h = h
fields_within (Commit job phase place fate moment) h = (h.0, tt, fate_within fate h.2)
fields_within (Finish job moment) h = h
fields_within (Cancel job moment) h = h
fields_within (Close job cancelled archive moment) h = (h.0, archive_within archive h.1)
fields_within (NewUpload path content_type moment) h = (tt, h.1)
fields_within (PutPart upload index body moment) h = (h.0, h.1, body_within body h.2)
fields_within (CommitUpload upload parts body moment) h = (h.0, h.1, tt, body_within body h.3)
fields_within (AbortUpload upload moment) h = h

pub within_limits : (c : Command Body) → HasSpelling c → IsWithinLimits c
within_limits c h = record { moment = h.moment; fields = fields_within c h.fields }

-- ---- digests

record_alike : (r : TaskRecord Body) → record_spelling (undigested_record r) ≡ record_spelling r
unfolding record_spelling
record_alike (Emit place reducer body) = refl
record_alike (Keep place body) = refl
record_alike (Ref name) = refl

records_alike : (rs : List (TaskRecord Body)) → flat_map record_spelling (map undigested_record rs) ≡ flat_map record_spelling rs
records_alike [] = refl
records_alike (r ∷ rs) = λ i. record_alike r i ++ records_alike rs i

length-undigested : (rs : List (TaskRecord Body)) → length (map undigested_record rs) ≡ length rs
length-undigested [] = refl
length-undigested (r ∷ rs) = ap suc (length-undigested rs)

fate_alike : (fate : Fate Body) → fate_spelling (undigested_fate fate) ≡ fate_spelling fate
unfolding fate_spelling
fate_alike (Good records) = λ i. 0 ∷ (big_endian_16 (length-undigested records i) ++ records_alike records i)
fate_alike (Bad failure status stderr) = refl

pub digests_apart : (c : Command Body) → spelling (undigested c) ≡ spelling c
unfolding spelling archive_spelling
digests_apart (Put path content_type body durability metadata moment) = refl
digests_apart (MakeDirectory path moment) = refl
digests_apart (Link path source moment) = refl
digests_apart (Delete path moment) = refl
digests_apart (NewJob document moment) = refl
digests_apart (AddInputs job lines moment) = refl
digests_apart (EndInput job moment) = refl
digests_apart (Commit job phase place fate moment) = ap (λ (t : List ℕ). 8 ∷ (big_endian_64 moment ++ big_endian_64 job ++ big_endian_32 phase ++ big_endian_64 place ++ t)) (fate_alike fate)
digests_apart (Finish job moment) = refl
digests_apart (Cancel job moment) = refl
digests_apart (Close job cancelled archive moment) = refl
digests_apart (NewUpload path content_type moment) = refl
digests_apart (PutPart upload index body moment) = refl
digests_apart (CommitUpload upload parts body moment) = refl
digests_apart (AbortUpload upload moment) = refl

-- ---- pieces

pub no_piece : (c : Command Body) → is_piece (spelling c) ≡ false
unfolding spelling
no_piece (Put path content_type body None [] moment) = refl
no_piece (Put path content_type body None (f ∷ fields) moment) = refl
no_piece (Put path content_type body (Some n) metadata moment) = refl
no_piece (MakeDirectory path moment) = refl
no_piece (Link path source moment) = refl
no_piece (Delete path moment) = refl
no_piece (NewJob document moment) = refl
no_piece (AddInputs job lines moment) = refl
no_piece (EndInput job moment) = refl
no_piece (Commit job phase place fate moment) = refl
no_piece (Finish job moment) = refl
no_piece (Cancel job moment) = refl
no_piece (Close job cancelled archive moment) = refl
no_piece (NewUpload path content_type moment) = refl
no_piece (PutPart upload index body moment) = refl
no_piece (CommitUpload upload parts body moment) = refl
no_piece (AbortUpload upload moment) = refl
