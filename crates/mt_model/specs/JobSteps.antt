-- The commands on jobs: why each is refused, and what it changes.
use Rattle.std.specs.Prelude.{ℕ, ◌+◌, Bool, true, false, not, ◌&&◌, ◌||◌, nat_lt, List, [], ◌∷◌, ◌++◌, map, length, codes, Option, Some, None}
use Rattle.std.specs.List.{filter_map, fold, list_any, slice_get, sum_by}
use Rattle.std.specs.Option.{unwrap_or, option_map}
use Rattle.mt_model.specs.Types.{AccountPath, AlreadyCommitted, Archive, AssetsTooLarge, Fate, InputLine, Job, JobDocument, JobNotFound, JobState, Named, NotATask, NotComplete, NotFound, Object, Other, Phase, Refusal, TooManyInputs, TraceEntry}
use Rattle.mt_types.specs.declared.object.Entry.TheVariants as entry
use Rattle.mt_model.specs.Feed.{feed}
use Rattle.mt_model.specs.Limits.{most_asset_bytes, most_inputs}
use Rattle.mt_model.specs.Names.{in_job_folder, job_folder, job_stor, number_at, root_of_input}
use Rattle.mt_model.specs.Resolve.{Resolved, is_object_at, resolve}
use Rattle.mt_model.specs.Rows.{Rows, first_refusal, object_at, refuse_if, with_row}
use Rattle.mt_model.specs.State.{State, with_job}
use Rattle.mt_model.specs.Tasks.{is_committed, is_running, may_run, root_at, waits_finish}

-- the five objects that a job leaves in its folder, in the order of their names: name and content type
abbrev pub archive_names : List (List ℕ × List ℕ)
archive_names =
    (codes "err.txt", codes "application/x-json-stream") ∷ (codes "fail.txt", codes "text/plain")
    ∷ (codes "in.txt", codes "text/plain") ∷ (codes "job.json", codes "application/json") ∷ (codes "out.txt", codes "text/plain") ∷ []

module _ {B : Type 0} where
  -- refused where the job is not there, and then as a job is
  abbrev pub job_refusal : Option (Job B) → (Job B → Option Refusal) → Option Refusal
  job_refusal None refusal = Some JobNotFound
  job_refusal (Some job) refusal = refusal job

  -- the input of a job may grow and end until it has ended or the job is done
  abbrev pub input_refusal : Job B → Option Refusal
  input_refusal job = refuse_if (job.ended || not (is_running job)) JobState

  -- the job has to run
  abbrev pub running_refusal : Job B → Option Refusal
  running_refusal job = refuse_if (not (is_running job)) JobState

  -- the bodies that the assets of a phase hold
  abbrev pub bodies_of : Rows B → Phase → List B
  bodies_of rows p = filter_map (λ name. option_map (λ o. o.body) (object_at rows name)) p.assets

  -- an asset of a phase is no object
  abbrev pub lacks_asset : Rows B → Phase → Bool
  lacks_asset rows p = list_any (λ name. not (is_object_at rows name)) p.assets

  -- the assets of a phase have too many bytes
  abbrev pub has_large_assets : (B → ℕ) → Rows B → Phase → Bool
  has_large_assets size rows p = nat_lt most_asset_bytes (sum_by size (bodies_of rows p))

  -- each asset has to be an object, and no phase may have too many bytes of them
  abbrev pub new_job_refusal : (B → ℕ) → Rows B → JobDocument → Option Refusal
  new_job_refusal size rows document =
      first_refusal (refuse_if (list_any (lacks_asset rows) document.phases) NotFound)
      (refuse_if (list_any (has_large_assets size rows) document.phases) AssetsTooLarge)

  -- a job that was just made
  abbrev pub new_job : Rows B → ℕ → JobDocument → ℕ → Job B
  new_job rows number document moment = record {
    number = number;
    document = document;
    assets = map (bodies_of rows) document.phases;
    inputs = [];
    missing = [];
    ended = false;
    cancelled = false;
    created = moment;
    done = None;
    trace = [];
  }

  -- with the two folders of a job
  abbrev pub with_folders : Rows B → ℕ → ℕ → Rows B
  with_folders rows number moment =
      with_row (with_row rows (job_folder number) (entry.Directory moment)) (job_stor number) (entry.Directory moment)

  -- with a new job and its two folders
  abbrev pub add_job : State B → JobDocument → ℕ → State B
  add_job s document moment =
      let number : ℕ = number_at s.count 0 in
      record s { rows = with_folders s.rows number moment; jobs = s.jobs ++ new_job s.rows number document moment ∷ [] }

  -- a job takes more lines while its input is open, up to a number in all
  abbrev pub add_inputs_refusal : List InputLine → Job B → Option Refusal
  add_inputs_refusal lines job =
      first_refusal (input_refusal job)
      (refuse_if (nat_lt most_inputs (length job.inputs + length job.missing + length lines)) TooManyInputs)

  -- a line that names an object becomes an input with the body that it holds; any other is missing
  abbrev pub with_named : AccountPath → Job B → Option (Object B) → Job B
  with_named p job (Some object) =
      record job { inputs = job.inputs ++ record { name = p; root = root_of_input p; body = object.body; reducer = None } ∷ [] }
  with_named p job None = record job { missing = job.missing ++ Named p ∷ [] }

  -- with one posted line
  abbrev pub with_line : Rows B → Job B → InputLine → Job B
  with_line rows job (Named p) = with_named p job (object_at rows p)
  with_line rows job (Other text) = record job { missing = job.missing ++ Other text ∷ [] }

  -- the lines in order
  abbrev pub with_lines : Rows B → List InputLine → Job B → Job B
  with_lines rows lines job = fold (with_line rows) job lines

  -- with its input ended
  abbrev pub with_end : Job B → Job B
  with_end job = record job { ended = true }

  -- only a task that may run is committed, and once
  abbrev pub commit_refusal : ℕ → ℕ → Job B → Option Refusal
  commit_refusal phase place job =
      first_refusal (running_refusal job)
      (first_refusal (refuse_if (not (may_run job phase place)) NotATask)
      (refuse_if (is_committed job.trace phase place) AlreadyCommitted))

  -- what the names of a task's outputs begin with
  abbrev pub task_root : Job B → ℕ → ℕ → List ℕ
  task_root job phase place =
      unwrap_or (option_map (λ p. root_at p.kind (feed job phase) place) (slice_get job.document.phases phase)) []

  -- with one more committed task
  abbrev pub with_entry : TraceEntry B → Job B → Job B
  with_entry e job = record job { trace = job.trace ++ e ∷ [] }

  -- what a commit of a job's task makes of the rows
  abbrev pub resolve_task : State B → Job B → ℕ → ℕ → Fate B → ℕ → Resolved B
  resolve_task s job phase place fate moment = resolve
      (record { job = job.number; phase = phase; root = task_root job phase place; position = s.count; moment = moment })
      s.rows fate

  -- with what a commit leaves: the rows, and an entry in the trace
  abbrev pub committed : State B → ℕ → ℕ → ℕ → Resolved B → State B
  committed s job phase place r = record s {
    rows = r.rows;
    jobs = with_job s.jobs job (with_entry (record { phase = phase; place = place; position = s.count; outcome = r.outcome }));
  }

  -- a task of this job is committed; nothing is done where there is no job
  abbrev pub commit : State B → Option (Job B) → ℕ → ℕ → Fate B → ℕ → State B
  commit s None phase place fate moment = s
  commit s (Some job) phase place fate moment = committed s job.number phase place (resolve_task s job phase place fate moment)

  -- only a job that waits for it is finished
  abbrev pub finish_refusal : Job B → Option Refusal
  finish_refusal job = first_refusal (running_refusal job) (refuse_if (not (waits_finish job)) NotComplete)

  -- a job is closed where it waits to be finished, or is cancelled
  abbrev pub close_refusal : Bool → Job B → Option Refusal
  close_refusal cancelled job = first_refusal (running_refusal job) (refuse_if (not cancelled && not (waits_finish job)) NotComplete)

  -- a job that is done
  abbrev pub done_at : ℕ → Bool → Job B → Job B
  done_at moment cancelled job = record job { done = Some moment; cancelled = cancelled }

  -- an object of an archive
  abbrev pub archive_object : ℕ → List ℕ → B → ℕ → Object B
  archive_object number content_type body moment =
      record { number = number; body = body; content_type = content_type; durability = None; metadata = []; mtime = moment }

  -- the bodies of an archive, in the order of their names
  abbrev pub archive_bodies : Archive B → List B
  archive_bodies a = a.err ∷ a.fail ∷ a.input ∷ a.status ∷ a.out ∷ []

  -- with objects of these names, content types and bodies in a job's folder, numbered from this index on
  abbrev pub with_archive_from : ℕ → Rows B → ℕ → ℕ → ℕ → List (List ℕ × List ℕ) → List B → Rows B
  with_archive_from index rows job position moment [] bodies = rows
  with_archive_from index rows job position moment (n ∷ ns) [] = rows
  with_archive_from index rows job position moment (n ∷ ns) (b ∷ bs) =
      with_archive_from (index + 1)
      (with_row rows (in_job_folder job n.0) (entry.Object (archive_object (number_at position index) n.1 b moment)))
      job position moment ns bs

  -- a job that is done, with its archive in its folder
  abbrev pub close : State B → ℕ → Bool → Archive B → ℕ → State B
  close s job cancelled archive moment = record s {
    rows = with_archive_from 0 s.rows job s.count moment archive_names (archive_bodies archive);
    jobs = with_job s.jobs job (done_at moment cancelled);
  }
