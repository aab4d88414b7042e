-- What is kept of a job that runs: the places of each phase, and those of them that are not committed.
use Rattle.std.specs.Prelude.{◌≡◌, ℕ, ◌-◌, ◌<◌, ◌≤◌, ◌==◌, Bool, true, false, not, cond, ◌&&◌, nat_lt, List, [], ◌∷◌, ◌++◌, length, map, take, All, Option, Some, None}
use Rattle.std.specs.List.{find, flat_map, list_all, list_any, range_with_len, slice_get}
use Rattle.std.specs.List.Sorted.{IsStrictlySortedBy}
use Rattle.std.specs.Option.{option_map}
use Rattle.std.specs.Ordering.{nat_cmp}
use Rattle.mt_types.specs.declared.document.PhaseKind.{PhaseKind}
use Rattle.mt_types.specs.declared.document.PhaseKind.TheVariants.{Map, Reduce}
use Rattle.mt_types.specs.declared.job.Task.{Task}

-- a phase: its number, how it cuts its feed into tasks, how many places it has, and which of them are not committed
pub record PhasePlan : Type 0 where
  pub phase : ℕ
  pub kind : PhaseKind
  pub places : ℕ
  pub todo : List ℕ

-- a job: its phases, and whether its input has ended
pub record Plan : Type 0 where
  pub phases : List PhasePlan
  pub ended : Bool

-- the places that are not committed: these, and all from the place `rest` on
abbrev pub open_places : List ℕ → ℕ → ℕ → List ℕ
open_places passed rest places = passed ++ range_with_len rest (places - rest)

-- how they are kept: these rise and stand before that place, which is none beyond the end
pub record ArePlacesKept (passed : List ℕ) (rest places : ℕ) : Type 0 where
  pub rising : IsStrictlySortedBy nat_cmp passed
  pub below : All (λ k. k < rest) passed
  pub most : rest ≤ places

-- the phases are numbered from 0
abbrev pub AreNumbered : List PhasePlan → Type 0
AreNumbered phases = map (λ q. q.phase) phases ≡ range_with_len 0 (length phases)

-- no element
abbrev pub is_none_left : List ℕ → Bool
is_none_left [] = true
is_none_left (k ∷ ks) = false

-- each place of the phase is committed
abbrev pub is_complete_phase : PhasePlan → Bool
is_complete_phase q = is_none_left q.todo

-- each place of each phase is
abbrev pub is_complete_plan : Plan → Bool
is_complete_plan plan = list_all is_complete_phase plan.phases

-- a reducer waits for the end of the input and for all earlier phases
abbrev pub may_begin_in : Plan → ℕ → PhaseKind → Bool
may_begin_in plan phase Map = true
may_begin_in plan phase (Reduce count) = plan.ended && list_all is_complete_phase (take phase plan.phases)

-- a place of a phase that is not committed
abbrev pub is_open_place : PhasePlan → ℕ → Bool
is_open_place q place = list_any (λ k. k == place) q.todo

-- a task, if there is such a phase: the place is one, and nothing holds the phase up
abbrev pub is_task_at : Plan → ℕ → ℕ → Option PhasePlan → Bool
is_task_at plan phase place None = false
is_task_at plan phase place (Some q) = may_begin_in plan phase q.kind && nat_lt place q.places

-- the plan has this task, and nothing holds it up
abbrev pub is_task_in : Plan → ℕ → ℕ → Bool
is_task_in plan phase place = is_task_at plan phase place (slice_get plan.phases phase)

-- a place of a phase, if there is such a phase, that is committed
abbrev pub is_committed_at : ℕ → Option PhasePlan → Bool
is_committed_at place None = false
is_committed_at place (Some q) = nat_lt place q.places && not (is_open_place q place)

-- the place is one of the phase, and is committed
abbrev pub is_committed_in : Plan → ℕ → ℕ → Bool
is_committed_in plan phase place = is_committed_at place (slice_get plan.phases phase)

-- a task of this phase of which the place is not committed
abbrev pub is_ready_at : Plan → ℕ → ℕ → Option PhasePlan → Bool
is_ready_at plan phase place None = false
is_ready_at plan phase place (Some q) = may_begin_in plan phase q.kind && is_open_place q place

-- the task may run now
abbrev pub is_ready_in : Plan → ℕ → ℕ → Bool
is_ready_in plan phase place = is_ready_at plan phase place (slice_get plan.phases phase)

-- a task by its place
abbrev pub task_at : ℕ → ℕ → ℕ → Task
task_at job phase place = record { job = job; phase = phase; place = place }

-- the ready tasks of a phase of this job, by place
abbrev pub ready_of_phase : ℕ → Plan → PhasePlan → List Task
ready_of_phase job plan q = cond (may_begin_in plan q.phase q.kind) (map (task_at job q.phase) q.todo) []

-- the ready tasks of this job, by phase and then by place
abbrev pub ready_in : ℕ → Plan → List Task
ready_in job plan = flat_map (ready_of_phase job plan) plan.phases

-- a task of the phase is ready
abbrev pub has_ready_phase : Plan → PhasePlan → Bool
has_ready_phase plan q = may_begin_in plan q.phase q.kind && not (is_complete_phase q)

-- a task of the job is ready
abbrev pub has_ready_in : Plan → Bool
has_ready_in plan = list_any (has_ready_phase plan) plan.phases

-- the job waits to be finished: its input has ended and each task is committed
abbrev pub waits_in : Plan → Bool
waits_in plan = plan.ended && is_complete_plan plan

-- the same task
abbrev pub is_same_task : Task → Task → Bool
is_same_task a b = (a.job == b.job) && ((a.phase == b.phase) && (a.place == b.place))

-- the task is among these
abbrev pub has_task : List Task → Task → Bool
has_task skip t = list_any (is_same_task t) skip

-- the first of these tasks that is not skipped
abbrev pub first_but : List Task → List Task → Option Task
first_but skip tasks = find (λ t. not (has_task skip t)) tasks

-- the ready tasks of the jobs, by job, by phase and then by place
abbrev pub all_ready : List (ℕ × Plan) → List Task
all_ready plans = flat_map (λ e. ready_in e.0 e.1) plans

-- the first of the jobs that waits to be finished
abbrev pub first_waiting : List (ℕ × Plan) → Option ℕ
first_waiting plans = option_map (λ e. e.0) (find (λ e. waits_in e.1) plans)
