-- By how much a command and the pieces of its bodies let a log grow.
use Rattle.std.specs.Prelude.{ℕ, ◌+◌, List, length}
use Rattle.std.specs.List.{sum_by}
use Rattle.mt_types.specs.declared.command.Archive.{Archive}
use Rattle.mt_types.specs.declared.command.Command.{Command}
use Rattle.mt_types.specs.declared.command.Command.TheVariants.{Put, Commit, Close}
use Rattle.mt_types.specs.declared.task.Fate.{Fate}
use Rattle.mt_types.specs.declared.task.Fate.TheVariants.{Good, Bad}
use Rattle.mt_types.specs.declared.task.TaskRecord.{TaskRecord}
use Rattle.mt_types.specs.declared.task.TaskRecord.TheVariants.{Emit, Keep, Ref}
use Rattle.mt_codec.specs.Pieces.{spelled_size}
use Rattle.mt_body.specs.Stored.{pieces_size}

-- a command behind pieces of so many bytes: a record of its own
abbrev pub growth : {B : Type 0} → ℕ → Command B → ℕ
growth pieces c = pieces + 21 + spelled_size c

-- the pieces of the body of a record, of those of a fate, and of an archive
abbrev pub record_pieces : TaskRecord (List ℕ) → ℕ
record_pieces (Emit place reducer body) = pieces_size (length body)
record_pieces (Keep place body) = pieces_size (length body)
record_pieces (Ref name) = 0

abbrev pub fate_pieces : Fate (List ℕ) → ℕ
fate_pieces (Good records) = sum_by record_pieces records
fate_pieces (Bad failure status stderr) = 0

abbrev pub archive_pieces : Archive (List ℕ) → ℕ
archive_pieces a = pieces_size (length a.err) + pieces_size (length a.fail) + pieces_size (length a.input) + pieces_size (length a.status) + pieces_size (length a.out)

-- and of a command on rows or jobs
abbrev pub command_pieces : Command (List ℕ) → ℕ
command_pieces (Put path content_type body durability metadata moment) = pieces_size (length body)
command_pieces (Commit job phase place fate moment) = fate_pieces fate
command_pieces (Close job cancelled archive moment) = archive_pieces archive
command_pieces other = 0

-- a command with its bodies
abbrev pub command_growth : Command (List ℕ) → ℕ
command_growth c = growth (command_pieces c) c
