-- What a certificate lists, and when its listed tasks, taken as true, make its outputs.
use Rattle.std.specs.Prelude.{◌≡◌, ℕ, ◌==◌, Bool, true, false, not, ◌&&◌, nat_lt, nat_eq, List, [], ◌∷◌, ◌++◌, map, length, All, Option, Some, None, is_some}
use Rattle.std.specs.Cmp.Lexicographic.{pointwise}
use Rattle.std.specs.List.{filter, find, flat_map, list_all, slice_get}
use Rattle.std.specs.List.Sorted.{IsStrictlySortedBy}
use Rattle.std.specs.Option.{option_map_or}
use Rattle.std.specs.Ordering.{nat_cmp}
use Rattle.mt_types.specs.declared.job.Outcome.TheVariants as outcome
use Rattle.mt_types.specs.declared.task.TaskFailure.TheVariants.{UserTaskError}
use Rattle.mt_model.specs.Types.{AccountPath, Item, Job, Map, Outcome, Phase, PhaseKind, Reduce, TraceEntry}
use Rattle.mt_model.specs.Feed.{entries_of, feed}
use Rattle.mt_model.specs.Finished.{outputs_of}
use Rattle.mt_model.specs.Meaning.{PhasesMean}
use Rattle.mt_model.specs.Rows.{is_path}
use Rattle.mt_model.specs.Tasks.{is_committed, is_complete, phases_of, share_places, task_count}
use Rattle.mt_certline.specs.declared.line.Line.{Line}
use Rattle.mt_certline.specs.declared.line.Line.TheVariants.{Begin, End, Input, Output, Task}
use Rattle.mt_certline.specs.declared.line.Listed.{Listed}
use Rattle.mt_certline.specs.declared.line.Sum.{Sum}

-- the number of a job, its phases and its inputs, the tasks that were committed, and the names of its outputs
pub record Certificate : Type 0 where
  pub number : ℕ
  pub phases : List Phase
  pub inputs : List (Item Sum)
  pub tasks : List Listed
  pub outputs : List AccountPath

-- its lines
abbrev pub lines_of : Certificate → List Line
lines_of c = Begin c.number c.phases ∷ map (λ i. Input i) c.inputs ++ map (λ l. Task l) c.tasks ++ map (λ p. Output p) c.outputs ++ End ∷ []

-- ---- a certificate as a job

-- what a listed task came to; of one that failed it is not told how
abbrev pub outcome_of : Option (List (Item Sum)) → Outcome Sum
outcome_of (Some items) = outcome.Good items
outcome_of None = outcome.Bad UserTaskError 0 []

abbrev pub entry_of : Listed → TraceEntry Sum
entry_of l = record { phase = l.phase; place = l.place; position = l.position; outcome = outcome_of l.outputs }

-- a job of these phases and inputs whose input has ended, and whose trace is what is listed
abbrev pub job_of : List Phase → List (Item Sum) → List Listed → Job Sum
job_of phases inputs tasks = record {
  number = 0;
  document = record { name = []; phases = phases };
  assets = [];
  inputs = inputs;
  missing = [];
  ended = true;
  cancelled = false;
  created = 0;
  done = None;
  trace = map entry_of tasks;
}

abbrev pub job_in : Certificate → Job Sum
job_in c = job_of c.phases c.inputs c.tasks

-- the places that a task reads
abbrev pub reads_of : PhaseKind → List (Item Sum) → ℕ → List ℕ
reads_of Map items place = place ∷ []
reads_of (Reduce count) items place = map (λ p. p.0) (share_places items count place)

abbrev pub is_of_phase : ℕ → Listed → Bool
is_of_phase n l = l.phase == n

-- it lists the places that it read
abbrev pub ReadsIts : Certificate → Listed → Type 0
ReadsIts c l = (p : Phase) → slice_get c.phases l.phase ≡ Some p → l.reads ≡ reads_of p.kind (feed (job_in c) l.phase) l.place

-- THE LISTED TASKS, TAKEN AS TRUE, MAKE THE OUTPUTS
pub record AddsUp (c : Certificate) : Type 0 where
  -- they stand phase by phase, and no other does
  pub by_phase : flat_map (λ p. filter (is_of_phase p.0) c.tasks) (phases_of (job_in c)) ≡ c.tasks
  pub rising : (n : ℕ) → IsStrictlySortedBy nat_cmp (map (λ l. l.position) (filter (is_of_phase n) c.tasks))
  pub made : List (Item Sum)
  -- each task once; the outputs of each phase are what the next one reads
  pub means : PhasesMean c.phases c.inputs (map (λ p. entries_of p.0 (job_in c).trace) (phases_of (job_in c))) made
  pub named : map (λ i. i.name) made ≡ c.outputs
  pub reads : All (ReadsIts c) c.tasks

-- ---- the same line by line

-- what was listed so far
pub record Progress : Type 0 where
  pub phases : List Phase
  pub inputs : List (Item Sum)
  pub tasks : List Listed
  pub outputs : List AccountPath

abbrev pub job_so_far : Progress → Job Sum
job_so_far g = job_of g.phases g.inputs g.tasks

-- the first phase with a place that is not listed
abbrev pub first_open : Progress → Option (ℕ × Phase)
first_open g = find (λ p. not (is_complete (job_so_far g) p)) (phases_of (job_so_far g))

-- above the positions of its phase so far
abbrev pub is_later : List Listed → Listed → Bool
is_later tasks l = list_all (λ k. nat_lt k.position l.position) (filter (is_of_phase l.phase) tasks)

-- a task of the first phase that is open: a place of it that is not listed, later, with what it reads
abbrev pub follows_in : Progress → Listed → ℕ × Phase → Bool
follows_in g l p =
    (l.phase == p.0) && nat_lt l.place (task_count p.1.kind (feed (job_so_far g) p.0))
    && not (is_committed (map entry_of g.tasks) l.phase l.place) && is_later g.tasks l
    && pointwise nat_eq l.reads (reads_of p.1.kind (feed (job_so_far g) p.0) l.place)

abbrev pub task_follows : Progress → Listed → Bool
task_follows g l = option_map_or (follows_in g l) (first_open g) false

-- the next name of the outputs, once each place is listed
abbrev pub output_follows : Progress → AccountPath → Bool
output_follows g name =
    not (is_some (first_open g)) && option_map_or (λ i. is_path i.name name) (slice_get (outputs_of (job_so_far g)) (length g.outputs)) false

-- each place is listed, and each name
abbrev pub is_whole : Progress → Bool
is_whole g = not (is_some (first_open g)) && (length g.outputs == length (outputs_of (job_so_far g)))

-- ---- the certificate of a job

abbrev pub good_items : Outcome Sum → Option (List (Item Sum))
good_items (outcome.Good items) = Some items
good_items (outcome.Bad failure status stderr) = None

-- a committed task of a phase, with what it reads
abbrev pub listed_of : Job Sum → ℕ × Phase → TraceEntry Sum → Listed
listed_of job p e = record {
  phase = e.phase;
  place = e.place;
  position = e.position;
  outputs = good_items e.outcome;
  reads = reads_of p.1.kind (feed job p.0) e.place;
}

-- those of a phase, in the order of their commits
abbrev pub listed_in : Job Sum → ℕ × Phase → List Listed
listed_in job p = map (listed_of job p) (entries_of p.0 job.trace)

abbrev pub certificate_of : Job Sum → Certificate
certificate_of job = record {
  number = job.number;
  phases = job.document.phases;
  inputs = job.inputs;
  tasks = flat_map (listed_in job) (phases_of job);
  outputs = map (λ i. i.name) (outputs_of job);
}
