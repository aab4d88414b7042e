-- Lines whose texts are read again.
use Rattle.std.specs.Prelude.{◌≡◌, ◌==◌, false, ℕ, ◌<◌, ◌^◌, ⊤, IsTrue, IsUtf8, List, Some, IfSome}
use Rattle.std.specs.List.{AllByRecursion, list_any}
use Rattle.serde_json.specs.Written.{compact_text}
use Rattle.mt_path.specs.AccountPath.{IsLogin, IsPath}
use Rattle.mt_types.specs.WellMade.{IsDocument}
use Rattle.mt_types.specs.declared.document.Phase.{Phase}
use Rattle.mt_types.specs.declared.job.Item.{Item}
use Rattle.mt_ident.specs.Digests.{IsDigest}
use Rattle.mt_certline.specs.declared.line.Line.{Line}
use Rattle.mt_certline.specs.declared.line.Line.TheVariants.{Begin, End, Input, Output, Task}
use Rattle.mt_certline.specs.declared.line.Listed.{Listed}
use Rattle.mt_certline.specs.declared.line.Sum.{Sum}
use Rattle.mt_certline.specs.Read.{is_root, line_of}
use Rattle.mt_certline.specs.Written.{line_data, nameless}

-- a number of 64 bits
abbrev pub IsWhole : ℕ → Type 0
IsWhole n = n < 2 ^ 64

-- an item whose parts are what they are to be
pub record IsItem (i : Item Sum) : Type 0 where
  pub digest : IsDigest i.body.md5
  pub name : IsPath i.name
  pub reducer : IfSome i.reducer (λ n. n < 2 ^ 32)
  pub root : IsTrue (is_root i.root)
  pub size : IsWhole i.body.size

-- a committed task, the same
pub record IsListed (l : Listed) : Type 0 where
  pub phase : IsWhole l.phase
  pub place : IsWhole l.place
  pub position : IsWhole l.position
  pub outputs : IfSome l.outputs (AllByRecursion IsItem)
  pub reads : AllByRecursion IsWhole l.reads

-- the command lines of a phase are texts
pub record IsOfTexts (p : Phase) : Type 0 where
  pub exec : IsUtf8 p.exec
  pub init : IfSome p.init IsUtf8

-- a job's number, and the phases of a document
pub record IsBegin (job : ℕ) (phases : List Phase) : Type 0 where
  pub number : job < 2 ^ 62
  pub document : IsDocument (nameless phases)
  pub texts : AllByRecursion IsOfTexts phases

-- a line whose parts are what they are to be
abbrev pub IsLine : Line → Type 0
IsLine (Begin number phases) = IsBegin number phases
IsLine (Input item) = IsItem item
IsLine (Task task) = IsListed task
IsLine (Output path) = IsPath path
IsLine End = ⊤

-- each such line is read from its text
abbrev pub LinesReadAgain : Type 0
LinesReadAgain = (login : List ℕ) (l : Line) → IsLogin login → IsLine l → line_of login (compact_text (line_data login l)) ≡ Some l

-- and its text is one line
abbrev pub TextsAreLines : Type 0
TextsAreLines = (login : List ℕ) (l : Line) → IsLogin login → IsLine l → list_any (λ b. b == 10) (compact_text (line_data login l)) ≡ false
