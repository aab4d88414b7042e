-- The texts of a job cut in pieces, each made of one value that the job holds.
use Rattle.std.specs.Prelude.{◌≡◌, ℕ, ◌<◌, ◌≤◌, ◌+◌, ◌^◌, ◌==◌, Bool, true, false, List, [], ◌++◌, map, length, Option, Some, None, slice_index_or, option_map, option_and_then, IfSome, if◌then◌else◌}
use Rattle.std.specs.List.{flat_map, slice_get}
use Rattle.serde_json.specs.Written.{compact_text}
use Rattle.mt_base.specs.declared.limits.TheConstants.{LAST_MOMENT}
use Rattle.mt_path.specs.AccountPath.{AccountPath, path_text}
use Rattle.mt_types.specs.declared.document.PhaseKind.{PhaseKind}
use Rattle.mt_types.specs.declared.document.PhaseKind.TheVariants.{Map, Reduce}
use Rattle.mt_types.specs.declared.job.Item.{Item}
use Rattle.mt_types.specs.declared.job.Job.{Job}
use Rattle.mt_types.specs.declared.job.Outcome.{Outcome}
use Rattle.mt_types.specs.declared.job.Outcome.TheVariants.{Good, Bad}
use Rattle.mt_types.specs.declared.job.TraceEntry.{TraceEntry}
use Rattle.mt_feeds.specs.FedJob.{AreFeeds}
use Rattle.mt_model.specs.Feed.{feed, items_of}
use Rattle.mt_model.specs.Finished.{outputs_of}
use Rattle.mt_types.specs.declared.live.LiveText.{LiveText}
use Rattle.mt_types.specs.declared.live.LiveText.TheVariants as live
use Rattle.mt_jobtext.specs.declared.pieces.Shown.{Shown}
use Rattle.mt_jobtext.specs.declared.stats.Stats.{Stats}
use Rattle.mt_jobtext.specs.declared.status.Ending.{Ending}
use Rattle.mt_jobtext.specs.Ended.{ended_as}
use Rattle.mt_jobtext.specs.JobTexts.{errors_of, failed_error, failed_name, line, missing_error, posted_text, task_data}
use Rattle.mt_jobtext.specs.StatusPieces.{status_pieces}

-- a line, if there is one
abbrev pub line_of : Option (List ℕ) → List ℕ
line_of None = []
line_of (Some text) = line text

module _ {B : Type 0} where
  -- the path of the object that a map task reads
  abbrev pub path_read : PhaseKind → List (Item B) → ℕ → Option AccountPath
  path_read Map items place = option_map (λ i. i.name) (slice_get items place)
  path_read (Reduce count) items place = None

  -- the same of a task of the job
  abbrev pub path_of_task : Job B → ℕ → ℕ → Option AccountPath
  path_of_task job phase place = option_and_then (λ p. path_read p.kind (feed job phase) place) (slice_get job.document.phases phase)

  abbrev pub path_where_bad : Option AccountPath → Outcome B → Option AccountPath
  path_where_bad path (Good items) = None
  path_where_bad path (Bad failure status stderr) = path

  -- the path of the object that a failed map task read
  abbrev pub failed_path : Job B → TraceEntry B → Option AccountPath
  failed_path job e = path_where_bad (path_of_task job e.phase e.place) e.outcome

  abbrev pub is_bad_outcome : Outcome B → Bool
  is_bad_outcome (Good items) = false
  is_bad_outcome (Bad failure status stderr) = true

  -- a committed task failed
  abbrev pub is_bad : TraceEntry B → Bool
  is_bad e = is_bad_outcome e.outcome

  -- its number has an identifier, and its moments dates
  pub record IsShowable (job : Job B) : Type 0 where
    pub number : job.number < 2 ^ 62
    pub created : job.created ≤ LAST_MOMENT
    pub done : IfSome job.done (λ moment. moment ≤ LAST_MOMENT)

  -- how much there is of a job
  pub record HasStats (job : Job B) (stats : Stats) : Type 0 where
    pub errors : (login : List ℕ) → stats.errors ≡ length (errors_of login job)
    pub inputs : stats.inputs ≡ length job.inputs
    pub outputs : stats.outputs ≡ length (outputs_of job)
    pub tasks : stats.tasks ≡ length job.trace

  -- the same, where a text tells of it
  abbrev pub NeedsStats : Job B → LiveText → Stats → Type 0
  NeedsStats job text stats = text ≡ live.Status → HasStats job stats

  -- the outputs of a task, if it is one of this phase
  abbrev pub outputs_in : ℕ → TraceEntry B → List (Item B)
  outputs_in phase e = if e.phase == phase then items_of e.outcome else []

  -- the names of a task's outputs, where its phase is the last of so many
  abbrev pub output_lines : List ℕ → ℕ → TraceEntry B → List ℕ
  output_lines login count e =
      if e.phase + 1 == count then flat_map (λ i. line (path_text login i.name)) (items_of e.outcome) else []

  -- the pieces that are made of no task
  abbrev pub first_pieces : List ℕ → Job B → Ending → LiveText → List (List ℕ)
  first_pieces login job ending live.In = map (λ i. line (path_text login i.name)) job.inputs
  first_pieces login job ending live.Out = []
  first_pieces login job ending live.Fail = map (λ l. line (posted_text login l)) job.missing
  first_pieces login job ending live.Err = map (λ l. line (compact_text (missing_error (posted_text login l)))) job.missing
  first_pieces login job ending live.Tasks = []
  first_pieces login job ending live.Status = status_pieces login (ended_as job ending)

  -- the tasks that add to a text
  abbrev pub adding_tasks : Job B → LiveText → List (TraceEntry B)
  adding_tasks job live.In = []
  adding_tasks job live.Out = job.trace
  adding_tasks job live.Fail = job.trace
  adding_tasks job live.Err = job.trace
  adding_tasks job live.Tasks = job.trace
  adding_tasks job live.Status = []

  -- a job without phases has no outputs but its inputs
  abbrev pub shown_text : Job B → LiveText → LiveText
  shown_text job live.In = live.In
  shown_text job live.Out = if length job.document.phases == 0 then live.In else live.Out
  shown_text job live.Fail = live.Fail
  shown_text job live.Err = live.Err
  shown_text job live.Tasks = live.Tasks
  shown_text job live.Status = live.Status

  -- what a committed task adds
  abbrev pub task_piece : List ℕ → Job B → LiveText → TraceEntry B → List ℕ
  task_piece login job live.In e = []
  task_piece login job live.Out e = output_lines login (length job.document.phases) e
  task_piece login job live.Fail e = line_of (failed_name login job e)
  task_piece login job live.Err e = line_of (option_map compact_text (failed_error login job e))
  task_piece login job live.Tasks e = line (compact_text (task_data e))
  task_piece login job live.Status e = []

  -- the pieces of a text
  unfoldable pub pieces_of : Shown B → List (List ℕ)
  pieces_of s =
      first_pieces s.login.now s.kept.now.job s.ending s.text
      ++ map (task_piece s.login.now s.kept.now.job s.text) (adding_tasks s.kept.now.job s.text)

  -- all of them
  abbrev pub joined_pieces : Shown B → List ℕ
  joined_pieces s = flat_map (λ piece. piece) (pieces_of s)

  -- the piece of this number
  abbrev pub piece_at : Shown B → ℕ → List ℕ
  piece_at s next = slice_index_or (pieces_of s) next []

  -- what its status needs is known, and where the outputs of its tasks stand
  pub record IsShown (s : Shown B) : Type 0 where
    pub showable : IsShowable (ended_as s.kept.now.job s.ending)
    pub feeds : AreFeeds s.kept.now.job s.kept.now.feeds.items
    pub stats : NeedsStats (ended_as s.kept.now.job s.ending) s.text s.stats
