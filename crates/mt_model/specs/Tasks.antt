-- The tasks of a job: which there are, what each reads and is run with, and which may run.
use Rattle.std.specs.Prelude.{ℕ, ◌%◌, ◌==◌, Bool, true, false, not, ◌&&◌, nat_lt, List, [], ◌∷◌, ◌++◌, map, length, take, drop, Option, Some, None, is_some}
use Rattle.std.specs.List.{slice_get, filter, flat_map, list_any, list_all, enumerate_from, range_with_len, zip}
use Rattle.std.specs.Option.{unwrap_or, option_map}
use Rattle.mt_model.specs.Types.{Asset, Item, Job, Map, Phase, PhaseKind, Reduce, Run, Task, TraceEntry, path_text, slash}
use Rattle.mt_model.specs.Feed.{feed}
use Rattle.mt_model.specs.Names.{job_stor, output_prefix, root_of_reducer}

-- the number of a reducer
abbrev pub reducer_at : PhaseKind → ℕ → Option ℕ
reducer_at Map place = None
reducer_at (Reduce count) place = Some place

module _ {B : Type 0} where
  -- the reducer that an item names, or else its place in the feed
  abbrev pub reducer_of : ℕ × Item B → ℕ
  reducer_of p = unwrap_or p.1.reducer p.0

  -- the places that one of so many reducers reads, each with its item, in order
  abbrev pub share_places : List (Item B) → ℕ → ℕ → List (ℕ × Item B)
  share_places items count reducer = filter (λ p. reducer_of p % count == reducer) (enumerate_from 0 items)

  -- their items
  abbrev pub share : List (Item B) → ℕ → ℕ → List (Item B)
  share items count reducer = map (λ p. p.1) (share_places items count reducer)

  -- what the task at a place of a phase reads: the places of the feed, each with its item, in order
  abbrev pub places_read : PhaseKind → List (Item B) → ℕ → List (ℕ × Item B)
  places_read Map items place = map (λ i. (place, i)) (take 1 (drop place items))
  places_read (Reduce count) items place = share_places items count place

  -- the items that it reads
  abbrev pub items_read : PhaseKind → List (Item B) → ℕ → List (Item B)
  items_read kind items place = map (λ p. p.1) (places_read kind items place)

  -- the task at a place reads this place of the feed
  abbrev pub reads_place : PhaseKind → List (Item B) → ℕ → ℕ → Bool
  reads_place kind items k place = list_any (λ p. p.0 == k) (places_read kind items place)

  -- the number of tasks of a phase over a feed: one an item, or one a reducer
  abbrev pub task_count : PhaseKind → List (Item B) → ℕ
  task_count Map items = length items
  task_count (Reduce count) items = count

  -- what the names of its outputs begin with
  abbrev pub root_at : PhaseKind → List (Item B) → ℕ → List ℕ
  root_at Map items place = unwrap_or (option_map (λ i. i.root) (slice_get items place)) []
  root_at (Reduce count) items place = root_of_reducer

  -- the phases of a job, each with its number
  abbrev pub phases_of : Job B → List (ℕ × Phase)
  phases_of job = enumerate_from 0 job.document.phases

  -- the trace has this task
  abbrev pub is_committed : List (TraceEntry B) → ℕ → ℕ → Bool
  is_committed trace phase place = list_any (λ e. (e.phase == phase) && (e.place == place)) trace

  -- each task of a phase is committed
  abbrev pub is_complete : Job B → ℕ × Phase → Bool
  is_complete job p = list_all (is_committed job.trace p.0) (range_with_len 0 (task_count p.1.kind (feed job p.0)))

  -- each task of each phase is
  abbrev pub all_complete : Job B → Bool
  all_complete job = list_all (is_complete job) (phases_of job)

  -- each task of each phase before this one is
  abbrev pub complete_before : Job B → ℕ → Bool
  complete_before job phase = list_all (is_complete job) (take phase (phases_of job))

  -- a reducer waits for the end of the input and for all earlier phases
  abbrev pub may_begin : Job B → ℕ → PhaseKind → Bool
  may_begin job phase Map = true
  may_begin job phase (Reduce count) = job.ended && complete_before job phase

  -- a task of this phase, if the job has it
  abbrev pub is_task_of : Job B → ℕ → ℕ → Option Phase → Bool
  is_task_of job phase place None = false
  is_task_of job phase place (Some p) = may_begin job phase p.kind && nat_lt place (task_count p.kind (feed job phase))

  -- the job has this task, and nothing holds it up
  abbrev pub is_task : Job B → ℕ → ℕ → Bool
  is_task job phase place = is_task_of job phase place (slice_get job.document.phases phase)

  -- the job is not done
  abbrev pub is_running : Job B → Bool
  is_running job = not (is_some job.done)

  -- a task may run while its job does
  abbrev pub may_run : Job B → ℕ → ℕ → Bool
  may_run job phase place = is_running job && is_task job phase place

  -- it is ready where it is not committed
  abbrev pub is_ready : Job B → ℕ → ℕ → Bool
  is_ready job phase place = may_run job phase place && not (is_committed job.trace phase place)

  -- a task by its place
  abbrev pub task_of : Job B → ℕ → ℕ → Task
  task_of job phase place = record { job = job.number; phase = phase; place = place }

  -- the ready tasks of a job, by phase and then by place
  abbrev pub ready : Job B → List Task
  ready job = flat_map
      (λ p. map (task_of job p.0) (filter (is_ready job p.0) (range_with_len 0 (task_count p.1.kind (feed job p.0)))))
      (phases_of job)

  -- a job waits to be finished where its input has ended and each task is committed
  abbrev pub waits_finish : Job B → Bool
  waits_finish job = is_running job && job.ended && all_complete job

  -- the name of the object that a map task reads
  abbrev pub object_read : List ℕ → PhaseKind → List (Item B) → ℕ → Option (List ℕ)
  object_read login Map items place = option_map (λ i. path_text login i.name) (slice_get items place)
  object_read login (Reduce count) items place = None

  -- the assets of a phase with their contents
  abbrev pub assets_of : (B → List ℕ) → List ℕ → Phase → List B → List Asset
  assets_of content login p bodies =
      map (λ a. record { name = path_text login a.0; bytes = content a.1 }) (zip p.assets bodies)

  -- what the task at a place of a phase is run with, over these items and by what its assets hold
  abbrev pub run_over : (B → List ℕ) → List ℕ → Job B → ℕ → ℕ → Phase → List (Item B) → Run
  run_over content login job phase place p items = record {
    job = job.number;
    phase = phase;
    exec = p.exec;
    init = p.init;
    base = path_text login (job_stor job.number) ++ slash ∷ output_prefix (root_at p.kind items place) phase;
    object = object_read login p.kind items place;
    reducer = reducer_at p.kind place;
    assets = assets_of content login p (unwrap_or (slice_get job.assets phase) []);
  }

  -- the same over what the phase reads
  abbrev pub run_in : (B → List ℕ) → List ℕ → Job B → ℕ → ℕ → Phase → Run
  run_in content login job phase place p = run_over content login job phase place p (feed job phase)

  -- what a task is run with, if its phase is one of the job
  abbrev pub run_of : (B → List ℕ) → List ℕ → Job B → ℕ → ℕ → Option Run
  run_of content login job phase place = option_map (run_in content login job phase place) (slice_get job.document.phases phase)

  -- the bytes that a task reads: of a map task its item's, of a reducer those of its share, joined
  abbrev pub input_of : (B → List ℕ) → PhaseKind → List (Item B) → ℕ → List ℕ
  input_of content kind items place = flat_map (λ i. content i.body) (items_read kind items place)
