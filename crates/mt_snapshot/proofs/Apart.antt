-- No record is a piece of a body, and none is a command.
use Rattle.std.proofs.Common.{◌≡◌, ℕ, ◌<◌, ◌≤◌, false, List, [], ◌∷◌, Some, None, refl, ap, arith, get_or}
use Rattle.std.specs.Prelude.{◌≢◌}
use Rattle.mt_types.specs.declared.body.Body.{Body}
use Rattle.mt_types.specs.declared.command.Command.{Command}
use Rattle.mt_types.specs.declared.command.Command.TheVariants.{Put, MakeDirectory, Link, Delete, NewJob, AddInputs, EndInput, Commit, Finish, Cancel, Close, NewUpload, PutPart, CommitUpload, AbortUpload}
use Rattle.mt_codec.specs.Pieces.{is_piece}
use Rattle.mt_codec.specs.Spelling.{spelling}
use Rattle.mt_snapshot.specs.declared.record.SnapshotRecord.{SnapshotRecord}
use Rattle.mt_snapshot.specs.declared.record.SnapshotRecord.TheVariants as listed
use Rattle.mt_snapshot.specs.Records.{snapshot_spelling}

pub no_piece : (r : SnapshotRecord Body) → is_piece (snapshot_spelling r) ≡ false
unfolding snapshot_spelling
no_piece (listed.Begin count rows jobs uploads) = refl
no_piece (listed.Row row) = refl
no_piece (listed.Job job) = refl
no_piece (listed.Input item) = refl
no_piece (listed.Missing line) = refl
no_piece (listed.Entry e) = refl
no_piece (listed.Upload upload) = refl
no_piece (listed.Part part) = refl
no_piece listed.End = refl

-- the first byte
mark : List ℕ → ℕ
mark bytes = get_or bytes 0 0

record_mark : (r : SnapshotRecord Body) → 64 ≤ mark (snapshot_spelling r)
unfolding snapshot_spelling mark
record_mark (listed.Begin count rows jobs uploads) = omega arith
record_mark (listed.Row row) = omega arith
record_mark (listed.Job job) = omega arith
record_mark (listed.Input item) = omega arith
record_mark (listed.Missing line) = omega arith
record_mark (listed.Entry e) = omega arith
record_mark (listed.Upload upload) = omega arith
record_mark (listed.Part part) = omega arith
record_mark listed.End = omega arith

command_mark : (c : Command Body) → mark (spelling c) < 64
unfolding spelling mark
command_mark (Put path content_type body None [] moment) = omega arith
command_mark (Put path content_type body None (f ∷ fields) moment) = omega arith
command_mark (Put path content_type body (Some n) metadata moment) = omega arith
command_mark (MakeDirectory path moment) = omega arith
command_mark (Link path source moment) = omega arith
command_mark (Delete path moment) = omega arith
command_mark (NewJob document moment) = omega arith
command_mark (AddInputs job lines moment) = omega arith
command_mark (EndInput job moment) = omega arith
command_mark (Commit job phase place fate moment) = omega arith
command_mark (Finish job moment) = omega arith
command_mark (Cancel job moment) = omega arith
command_mark (Close job cancelled archive moment) = omega arith
command_mark (NewUpload path content_type moment) = omega arith
command_mark (PutPart upload index body moment) = omega arith
command_mark (CommitUpload upload parts body moment) = omega arith
command_mark (AbortUpload upload moment) = omega arith

pub no_command : (r : SnapshotRecord Body) (c : Command Body) → snapshot_spelling r ≢ spelling c
no_command r c e = let same = ap mark e in absurd (omega (arith, record_mark r, command_mark c))
