-- Documents of jobs, and commands, whose parts are what they are to be.
use Rattle.std.specs.Prelude.{ℕ, ◌≤◌, ⊤, IsTrue, List, length, IfSome}
use Rattle.std.specs.List.{AllByRecursion}
use Rattle.mt_path.specs.AccountPath.{IsPath}
use Rattle.mt_types.specs.declared.command.Command.{Command}
use Rattle.mt_types.specs.declared.command.Command.TheVariants.{Put, MakeDirectory, Link, Delete, NewJob, AddInputs, EndInput, Commit, Finish, Cancel, Close, NewUpload, PutPart, CommitUpload, AbortUpload}
use Rattle.mt_types.specs.declared.document.InputLine.{InputLine}
use Rattle.mt_types.specs.declared.document.InputLine.TheVariants.{Named, Other}
use Rattle.mt_types.specs.declared.document.JobDocument.{JobDocument}
use Rattle.mt_types.specs.declared.document.Phase.{Phase}
use Rattle.mt_types.specs.declared.document.PhaseKind.{PhaseKind}
use Rattle.mt_types.specs.declared.document.PhaseKind.TheVariants.{Map, Reduce}
use Rattle.mt_types.specs.declared.limits.TheConstants.{MOST_ASSETS, MOST_PHASES, MOST_RECORDS}
use Rattle.mt_types.specs.declared.task.Fate.{Fate}
use Rattle.mt_types.specs.declared.task.Fate.TheVariants.{Good, Bad}
use Rattle.mt_types.specs.declared.task.TaskRecord.{TaskRecord}
use Rattle.mt_types.specs.declared.task.TaskRecord.TheVariants.{Emit, Keep, Ref}
use Rattle.mt_types.specs.Limits.{is_command_line, is_count, is_index}

-- a reduce phase has 1 to 1,024 reducers
abbrev pub HasReducers : PhaseKind → Type 0
HasReducers Map = ⊤
HasReducers (Reduce count) = IsTrue (is_count count)

-- its kind, command lines within their limits, and at most 64 assets, each named by a path
pub record IsDocumentPhase (p : Phase) : Type 0 where
  pub kind : HasReducers p.kind
  pub exec : IsTrue (is_command_line p.exec)
  pub init : IfSome p.init (λ t. IsTrue (is_command_line t))
  pub few : length p.assets ≤ MOST_ASSETS
  pub assets : AllByRecursion IsPath p.assets

-- 1 to 16 phases
pub record IsDocument (d : JobDocument) : Type 0 where
  pub some : 1 ≤ length d.phases
  pub few : length d.phases ≤ MOST_PHASES
  pub phases : AllByRecursion IsDocumentPhase d.phases

-- a posted line that names an object names it by a path
abbrev pub IsWellMadeLine : InputLine → Type 0
IsWellMadeLine (Named p) = IsPath p
IsWellMadeLine (Other text) = ⊤

module _ {B : Type 0} where
  -- the paths of a record are paths
  abbrev pub IsWellMadeRecord : TaskRecord B → Type 0
  IsWellMadeRecord (Emit place reducer body) = IfSome place IsPath
  IsWellMadeRecord (Keep place body) = IsPath place
  IsWellMadeRecord (Ref name) = IsPath name

  -- at most 4,095 records, each well made
  abbrev pub IsWellMadeFate : Fate B → Type 0
  IsWellMadeFate (Good records) = (length records ≤ MOST_RECORDS) × AllByRecursion IsWellMadeRecord records
  IsWellMadeFate (Bad failure status stderr) = ⊤

  -- what a command says of paths, documents and records is well made
  abbrev pub IsWellMade : Command B → Type 0
  IsWellMade (Put path content_type body durability metadata moment) = IsPath path
  IsWellMade (MakeDirectory path moment) = IsPath path
  IsWellMade (Link path source moment) = IsPath path × IsPath source
  IsWellMade (Delete path moment) = IsPath path
  IsWellMade (NewJob document moment) = IsDocument document
  IsWellMade (AddInputs job lines moment) = AllByRecursion IsWellMadeLine lines
  IsWellMade (EndInput job moment) = ⊤
  IsWellMade (Commit job phase place fate moment) = IsWellMadeFate fate
  IsWellMade (Finish job moment) = ⊤
  IsWellMade (Cancel job moment) = ⊤
  IsWellMade (Close job cancelled archive moment) = ⊤
  IsWellMade (NewUpload path content_type moment) = IsPath path
  IsWellMade (PutPart upload index body moment) = IsTrue (is_index index)
  IsWellMade (CommitUpload upload parts body moment) = ⊤
  IsWellMade (AbortUpload upload moment) = ⊤
