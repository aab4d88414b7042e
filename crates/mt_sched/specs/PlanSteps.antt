-- What changes of a job make of its plan.
use Rattle.std.specs.Prelude.{ℕ, ◌+◌, ◌==◌, Bool, true, false, not, cond, List, ◌++◌, map}
use Rattle.std.specs.List.{enumerate_from, filter, range_with_len}
use Rattle.mt_types.specs.declared.document.PhaseKind.{PhaseKind}
use Rattle.mt_types.specs.declared.document.PhaseKind.TheVariants.{Map, Reduce}
use Rattle.mt_sched.specs.Plan.{PhasePlan, Plan, is_complete_phase}

-- the number of places before anything is fed
abbrev pub first_places : PhaseKind → ℕ
first_places Map = 0
first_places (Reduce count) = count

-- a phase into which nothing is fed
abbrev pub first_phase : ℕ × PhaseKind → PhasePlan
first_phase p = record { phase = p.0; kind = p.1; places = first_places p.1; todo = range_with_len 0 (first_places p.1) }

-- the plan of a job that was just made
abbrev pub first_plan : List PhaseKind → Plan
first_plan kinds = record { phases = map first_phase (enumerate_from 0 kinds); ended = false }

-- so many items more are fed to a phase of this kind: a map phase has a place more for each, a reduce phase has its places
abbrev pub fed_to : ℕ → PhaseKind → PhasePlan → PhasePlan
fed_to n Map q = record q { places = q.places + n; todo = q.todo ++ range_with_len q.places n }
fed_to n (Reduce count) q = q

-- so many items more are fed to a phase
abbrev pub fed : ℕ → PhasePlan → PhasePlan
fed n q = fed_to n q.kind q

-- a place of a phase is committed
abbrev pub without_place : ℕ → PhasePlan → PhasePlan
without_place place q = record q { todo = filter (λ k. not (k == place)) q.todo }

-- the phase of this number changed, if there is one
abbrev pub at_phase : ℕ → (PhasePlan → PhasePlan) → Plan → Plan
at_phase phase change plan = record plan { phases = map (λ q. cond (q.phase == phase) (change q) q) plan.phases }

-- so many items more are fed to a phase of a job
abbrev pub grown : Plan → ℕ → ℕ → Plan
grown plan phase n = at_phase phase (fed n) plan

-- a task of a job is committed
abbrev pub committed_in : Plan → ℕ → ℕ → Plan
committed_in plan phase place = at_phase phase (without_place place) plan

-- whether a phase is complete once a place of the phase of this number is committed
abbrev pub is_complete_after : ℕ → ℕ → PhasePlan → Bool
is_complete_after phase place q = is_complete_phase (cond (q.phase == phase) (without_place place q) q)

-- the input of a job ends
abbrev pub ended_plan : Plan → Plan
ended_plan plan = record plan { ended = true }

-- the plans of jobs, the one of this number changed
abbrev pub with_plan : List (ℕ × Plan) → ℕ → (Plan → Plan) → List (ℕ × Plan)
with_plan plans job change = map (λ e. cond (e.0 == job) (e.0, change e.1) e) plans

-- the plans of jobs without the one of this number
abbrev pub without_plan : List (ℕ × Plan) → ℕ → List (ℕ × Plan)
without_plan plans job = filter (λ e. not (e.0 == job)) plans
