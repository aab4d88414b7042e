-- The same state over other bodies, and what holds of each body of a state.
use Rattle.std.specs.Prelude.{List, map, ⊤}
use Rattle.std.specs.List.{AllByRecursion}
use Rattle.mt_model.specs.Types.{AccountPath, Archive, Close, Command, Commit, CommitUpload, Emit, Entry, Fate, Item, Job, Keep, Outcome, Put, PutPart, Ref, TaskRecord, Upload}
use Rattle.mt_types.specs.Values.{entry_with, item_with, job_with, outcome_with, upload_with}
use Rattle.mt_types.specs.declared.job.Outcome.TheVariants.{Good, Bad}
use Rattle.mt_types.specs.declared.object.Entry.TheVariants as entry
use Rattle.mt_types.specs.declared.task.Fate.TheVariants as fate
use Rattle.mt_model.specs.Resolve.{Resolved, Taken}
use Rattle.mt_model.specs.Rows.{Rows}
use Rattle.mt_model.specs.State.{State}

module _ {A B : Type 0} (f : A → B) where
  -- a path and what stands there
  abbrev pub pair_with : AccountPath × Entry A → AccountPath × Entry B
  pair_with r = (r.0, entry_with f r.1)

  -- rows
  abbrev pub rows_with : Rows A → Rows B
  rows_with rows = map pair_with rows

  -- how far records have been taken
  abbrev pub taken_with : Taken A → Taken B
  taken_with t = record { rows = rows_with t.rows; items = map (item_with f) t.items; made = t.made }

  -- what a commit leaves
  abbrev pub resolved_with : Resolved A → Resolved B
  resolved_with r = record { rows = rows_with r.rows; outcome = outcome_with f r.outcome }

  -- a state
  abbrev pub state_with : State A → State B
  state_with s = record { count = s.count; rows = rows_with s.rows; jobs = map (job_with f) s.jobs; uploads = map (upload_with f) s.uploads }

-- P holds of each body
module _ {A : Type 0} (P : A → Type 0) where
  -- of an entry
  abbrev pub OfEntry : Entry A → Type 0
  OfEntry (entry.Directory mtime) = ⊤
  OfEntry (entry.Object object) = P object.body

  -- of items
  abbrev pub OfItems : List (Item A) → Type 0
  OfItems items = AllByRecursion (λ i. P i.body) items

  -- of an outcome
  abbrev pub OfOutcome : Outcome A → Type 0
  OfOutcome (Good items) = OfItems items
  OfOutcome (Bad failure status stderr) = ⊤

  -- of a job: its assets, its inputs and the outputs of its tasks
  pub record OfJob (j : Job A) : Type 0 where
    pub assets : AllByRecursion (λ bodies. AllByRecursion P bodies) j.assets
    pub inputs : OfItems j.inputs
    pub trace : AllByRecursion (λ e. OfOutcome e.outcome) j.trace

  -- of an upload
  abbrev pub OfUpload : Upload A → Type 0
  OfUpload u = AllByRecursion (λ p. P p.body) u.parts

  -- of a state
  pub record OfState (s : State A) : Type 0 where
    pub rows : AllByRecursion (λ r. OfEntry r.1) s.rows
    pub jobs : AllByRecursion OfJob s.jobs
    pub uploads : AllByRecursion OfUpload s.uploads

  -- of a record of a task
  abbrev pub OfRecord : TaskRecord A → Type 0
  OfRecord (Emit place reducer body) = P body
  OfRecord (Keep place body) = P body
  OfRecord (Ref name) = ⊤

  -- of the fate of a task
  abbrev pub OfFate : Fate A → Type 0
  OfFate (fate.Good records) = AllByRecursion OfRecord records
  OfFate (fate.Bad failure status stderr) = ⊤

  -- of the archive of a job
  pub record OfArchive (a : Archive A) : Type 0 where
    pub err : P a.err
    pub fail : P a.fail
    pub input : P a.input
    pub status : P a.status
    pub out : P a.out

  -- of a command: those that it brings
  abbrev pub OfCommand : Command A → Type 0
  OfCommand (Put path content_type body durability metadata moment) = P body
  OfCommand (Commit job phase place fate moment) = OfFate fate
  OfCommand (Close job cancelled archive moment) = OfArchive archive
  OfCommand (PutPart upload index body moment) = P body
  OfCommand (CommitUpload upload parts body moment) = P body
  OfCommand other = ⊤
