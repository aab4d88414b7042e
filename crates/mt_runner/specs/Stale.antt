-- Children whose tasks aren't ready any more, and which child is looked for.
use Rattle.std.specs.Prelude.{◌≡◌, ℕ, ◌==◌, Bool, true, false, not, List, [], Option, Some, None}
use Rattle.std.specs.List.{AllByRecursion, Contains}
use Rattle.mt_types.specs.declared.body.Body.{Body}
use Rattle.mt_model.specs.State.{State}
use Rattle.mt_spawn.specs.declared.task.Ticket.{Ticket}
use Rattle.mt_tasks.specs.Standing.{is_ready_in}
use Rattle.mt_runner.specs.Attempts.{number_of, task_in}
use Rattle.mt_runner.specs.declared.runner.Started.{Started}

-- of another ticket
abbrev pub is_other_child : ℕ → Started → Bool
is_other_child t k = not (t == number_of k)

-- of this one
abbrev pub is_child : ℕ → Started → Bool
is_child t k = number_of k == t

-- it is kept, under this ticket, and its task is not ready
pub record IsStale (s : State Body) (ks : List Started) (t : ℕ) : Type 0 where
  pub child : Started
  pub there : Contains ks child
  pub named : number_of child ≡ t
  pub stale : is_ready_in s (task_in child) ≡ false

-- the first such one, or none
abbrev pub FirstStale : State Body → List Started → Option Ticket → Type 0
FirstStale s ks (Some ticket) = IsStale s ks ticket.number
FirstStale s ks None = AllByRecursion (λ k. is_ready_in s (task_in k) ≡ true) ks

-- one that is kept, or none is
abbrev pub FirstKept : List Started → Option Started → Type 0
FirstKept ks (Some k) = Contains ks k
FirstKept ks None = ks ≡ []
