-- What the queues of jobs keep beside their plans.
use Rattle.std.specs.Prelude.{◌≡◌, ℕ, ◌<◌, Bool, true, false, cond, ◌&&◌, ◌||◌, List, [], All, Option, Some, None}
use Rattle.std.specs.List.{list_any}
use Rattle.std.specs.List.Sorted.{IsStrictlySortedBy}
use Rattle.std.specs.BTreeMap.{is_at}
use Rattle.std.specs.Map.{keys_of, lookup}
use Rattle.std.specs.Ordering.{nat_cmp}
use Rattle.mt_types.specs.declared.job.Task.{Task}
use Rattle.mt_sched.specs.Plan.{Plan, has_ready_in, ready_in, waits_in}

-- the plan of the job of this number, if there is one
abbrev pub plan_at : List (ℕ × Plan) → ℕ → Option Plan
plan_at plans job = lookup (is_at (nat_cmp job)) plans

-- the ready tasks of a plan, if there is one
abbrev pub ready_if : ℕ → Option Plan → List Task
ready_if job None = []
ready_if job (Some plan) = ready_in job plan

-- the ready tasks of the job of this number
abbrev pub ready_at : List (ℕ × Plan) → ℕ → List Task
ready_at plans job = ready_if job (plan_at plans job)

-- a test of a plan, which no job that is not there passes
abbrev pub passes : (Plan → Bool) → Option Plan → Bool
passes test None = false
passes test (Some plan) = test plan

-- a number is among these
abbrev pub has_number : List ℕ → ℕ → Bool
has_number numbers job = list_any (is_at (nat_cmp job)) numbers

-- the second has the numbers of the first
abbrev pub HasSame : List ℕ → List ℕ → Type 0
HasSame old new = (k : ℕ) → has_number new k ≡ has_number old k

-- the second has the numbers of the first, and this one where it may belong there
abbrev pub HasAlso : Bool → ℕ → List ℕ → List ℕ → Type 0
HasAlso may job old new = (k : ℕ) → has_number new k ≡ cond (is_at (nat_cmp job) k) (may || has_number old k) (has_number old k)

-- the second has the numbers of the first, but this one only where it belongs there
abbrev pub HasWhere : Bool → ℕ → List ℕ → List ℕ → Type 0
HasWhere belongs job old new = (k : ℕ) → has_number new k ≡ (has_number old k && cond (is_at (nat_cmp job) k) belongs true)

-- the numbers are those of the jobs whose plan passes a test
abbrev pub AreOf : (Plan → Bool) → List (ℕ × Plan) → List ℕ → Type 0
AreOf test plans numbers = (job : ℕ) → has_number numbers job ≡ passes test (plan_at plans job)

-- the jobs rise; one set has those with a ready task, the other those that wait to be finished
pub record IsSched (plans : List (ℕ × Plan)) (ready waiting : List ℕ) : Type 0 where
  pub rising : IsStrictlySortedBy nat_cmp (keys_of plans)
  pub active_rising : IsStrictlySortedBy nat_cmp ready
  pub finishing_rising : IsStrictlySortedBy nat_cmp waiting
  pub active : AreOf has_ready_in plans ready
  pub finishing : AreOf waits_in plans waiting

-- the job is above all that are kept
abbrev pub IsAbove : ℕ → List (ℕ × Plan) → Type 0
IsAbove job plans = All (λ e. e.0 < job) plans
