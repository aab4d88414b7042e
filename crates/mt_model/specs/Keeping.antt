-- The limits that the values of a state keep, so that each can be told and written.
use Rattle.std.specs.Prelude.{ℕ, ◌<◌, ◌≤◌, ◌^◌, IsTrue, ⊤, List, length, Option, IfSome}
use Rattle.std.specs.List.{AllByRecursion}
use Rattle.mt_model.specs.Types.{AddInputs, Cancel, Close, Command, Commit, CommitUpload, Emit, Entry, Fate, Field, Finish, FitsMetadata, InputLine, Item, Job, JobDocument, Keep, LONGEST_STDERR, Link, MakeDirectory, Named, NewJob, NewUpload, Other, Outcome, Phase, Put, Ref, TaskRecord, Upload, is_command_line, is_content_type, is_durability, is_job_name, is_line_text, is_moment}
use Rattle.mt_types.specs.declared.job.Outcome.TheVariants as outcome
use Rattle.mt_types.specs.declared.object.Entry.TheVariants as entry
use Rattle.mt_types.specs.declared.task.Fate.TheVariants as fate
use Rattle.mt_model.specs.State.{State}

-- seconds up to the end of the year 9999
abbrev pub IsMoment : ℕ → Type 0
IsMoment moment = IsTrue (is_moment moment)

-- what is said of an object beside its body
pub record IsSaid (content_type : List ℕ) (durability : Option ℕ) (metadata : List Field) (moment : ℕ) : Type 0 where
  pub content_type_is : IsTrue (is_content_type content_type)
  pub durability_is : IfSome durability (λ n. IsTrue (is_durability n))
  pub metadata_is : FitsMetadata metadata
  pub moment_is : IsMoment moment

-- the command lines of a phase
pub record IsPhase (p : Phase) : Type 0 where
  pub exec : IsTrue (is_command_line p.exec)
  pub init : IfSome p.init (λ t. IsTrue (is_command_line t))

-- the name and the command lines of a document
pub record IsSaidDocument (d : JobDocument) : Type 0 where
  pub name : IsTrue (is_job_name d.name)
  pub phases : AllByRecursion IsPhase d.phases

-- a line that is no path: its length has four bytes
abbrev pub IsLine : InputLine → Type 0
IsLine (Named p) = ⊤
IsLine (Other t) = IsTrue (is_line_text t) × (length t < 2 ^ 32)

module _ {B : Type 0} where
  -- what stands at a path
  abbrev pub IsEntry : Entry B → Type 0
  IsEntry (entry.Directory mtime) = IsMoment mtime
  IsEntry (entry.Object o) = IsSaid o.content_type o.durability o.metadata o.mtime

  -- the number of the reducer that an item names has four bytes
  abbrev pub IsItem : Item B → Type 0
  IsItem i = IfSome i.reducer (λ n. n < 2 ^ 32)

  -- the outputs of a task, or the front of standard error that a failed one left
  abbrev pub IsOutcome : Outcome B → Type 0
  IsOutcome (outcome.Good items) = AllByRecursion IsItem items
  IsOutcome (outcome.Bad failure status stderr) = length stderr ≤ LONGEST_STDERR

  -- a job: its moments, its texts, and the reducers that it names
  pub record IsJob (j : Job B) : Type 0 where
    pub created : IsMoment j.created
    pub done : IfSome j.done IsMoment
    pub document : IsSaidDocument j.document
    pub inputs : AllByRecursion IsItem j.inputs
    pub missing : AllByRecursion IsLine j.missing
    pub outcomes : AllByRecursion (λ e. IsOutcome e.outcome) j.trace

  -- an upload
  pub record IsUpload (u : Upload B) : Type 0 where
    pub content_type : IsTrue (is_content_type u.content_type)
    pub moment : IsMoment u.moment

  -- each value of a state
  pub record KeepsLimits (s : State B) : Type 0 where
    pub rows : AllByRecursion (λ r. IsEntry r.1) s.rows
    pub jobs : AllByRecursion IsJob s.jobs
    pub uploads : AllByRecursion IsUpload s.uploads

  -- the same of a record of a task
  abbrev pub IsSaidRecord : TaskRecord B → Type 0
  IsSaidRecord (Emit place reducer body) = IfSome reducer (λ n. n < 2 ^ 32)
  IsSaidRecord (Keep place body) = ⊤
  IsSaidRecord (Ref name) = ⊤

  -- and of a fate
  abbrev pub IsSaidFate : Fate B → Type 0
  IsSaidFate (fate.Good records) = AllByRecursion IsSaidRecord records
  IsSaidFate (fate.Bad failure status stderr) = length stderr ≤ LONGEST_STDERR

  -- what a command brings into the state is within the limits
  abbrev pub SaysWithin : Command B → Type 0
  SaysWithin (Put path content_type body durability metadata moment) = IsSaid content_type durability metadata moment
  SaysWithin (MakeDirectory path moment) = IsMoment moment
  SaysWithin (Link path source moment) = IsMoment moment
  SaysWithin (NewJob document moment) = IsMoment moment × IsSaidDocument document
  SaysWithin (AddInputs job lines moment) = AllByRecursion IsLine lines
  SaysWithin (Commit job phase place fate moment) = IsMoment moment × IsSaidFate fate
  SaysWithin (Finish job moment) = IsMoment moment
  SaysWithin (Cancel job moment) = IsMoment moment
  SaysWithin (Close job cancelled archive moment) = IsMoment moment
  SaysWithin (NewUpload path content_type moment) = IsTrue (is_content_type content_type) × IsMoment moment
  SaysWithin (CommitUpload upload parts body moment) = IsMoment moment
  SaysWithin other = ⊤
