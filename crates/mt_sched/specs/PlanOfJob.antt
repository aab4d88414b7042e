-- The plan of a job, of which the plain lists of tasks are read.
use Rattle.std.specs.Prelude.{ℕ, not, List, map}
use Rattle.std.specs.List.{count_by, filter, range_with_len}
use Rattle.mt_types.specs.declared.document.InputLine.{InputLine}
use Rattle.mt_types.specs.declared.document.InputLine.TheVariants.{Named, Other}
use Rattle.mt_types.specs.declared.document.Phase.{Phase}
use Rattle.mt_types.specs.declared.document.PhaseKind.{PhaseKind}
use Rattle.mt_types.specs.declared.job.Job.{Job}
use Rattle.mt_model.specs.Feed.{feed}
use Rattle.mt_model.specs.Resolve.{is_object_at}
use Rattle.mt_model.specs.Rows.{Rows}
use Rattle.mt_model.specs.Tasks.{is_committed, is_running, phases_of, task_count}
use Rattle.mt_sched.specs.Plan.{PhasePlan, Plan}
use Rattle.std.specs.Prelude.{Bool, false}

module _ {B : Type 0} where
  -- the number of places of a phase
  abbrev pub places_of : Job B → ℕ × Phase → ℕ
  places_of job p = task_count p.1.kind (feed job p.0)

  -- the places of a phase that are not committed, in order
  abbrev pub todo_of : Job B → ℕ × Phase → List ℕ
  todo_of job p = filter (λ k. not (is_committed job.trace p.0 k)) (range_with_len 0 (places_of job p))

  -- what is kept of a phase
  abbrev pub phase_plan : Job B → ℕ × Phase → PhasePlan
  phase_plan job p = record { phase = p.0; kind = p.1.kind; places = places_of job p; todo = todo_of job p }

  -- what is kept of a job
  abbrev pub plan_of : Job B → Plan
  plan_of job = record { phases = map (phase_plan job) (phases_of job); ended = job.ended }

  -- what is kept of jobs: the plans of those that run, each beside its number
  abbrev pub plans_of : List (Job B) → List (ℕ × Plan)
  plans_of jobs = map (λ j. (j.number, plan_of j)) (filter is_running jobs)

  -- a posted line becomes an input
  abbrev pub is_input : Rows B → InputLine → Bool
  is_input rows (Named p) = is_object_at rows p
  is_input rows (Other text) = false

  -- the number of posted lines that become inputs
  abbrev pub inputs_in : Rows B → List InputLine → ℕ
  inputs_in rows lines = count_by (is_input rows) lines

-- how the phases of a document cut their feeds
abbrev pub kinds_of : List Phase → List PhaseKind
kinds_of phases = map (λ p. p.kind) phases
