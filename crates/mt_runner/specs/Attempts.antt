-- The children that a runner keeps and those that its spawner knows, seen as one list of attempts at tasks.
use Rattle.std.specs.Prelude.{◌≡◌, ℕ, ◌<◌, ◌≤◌, ◌==◌, Bool, not, List, [], ◌∷◌, ◌++◌, length, map, eqb, Option, Some}
use Rattle.std.specs.List.{IsDistinct}
use Rattle.mt_types.specs.declared.job.Task.{Task}
use Rattle.mt_base.specs.Counts.{RoseBy}
use Rattle.mt_spawn.specs.Children.{Child, ticket_of}
use Rattle.mt_sched.specs.Plan.{first_but, is_same_task}
use Rattle.mt_runner.specs.declared.runner.Started.{Started}

-- a runner: whose commands it runs, how many children at most, and those that it has started
pub record RunnerState : Type 0 where
  pub login : List ℕ
  pub slots : ℕ
  pub kept : List Started

abbrev pub number_of : Started → ℕ
number_of k = k.ticket.number

abbrev pub task_in : Started → Task
task_in k = k.task

-- what holds of any runner: it has a slot, it keeps no more children than slots, and no two of one ticket or of one task
pub record Holds (r : RunnerState) : Type 0 where
  pub some : 0 < r.slots
  pub few : length r.kept ≤ r.slots
  pub tickets : IsDistinct eqb (map number_of r.kept)
  pub tasks : IsDistinct is_same_task (map task_in r.kept)

-- a live child that was started for a task: its ticket, what decides what it may end in, and how often it was waited for in vain
pub record Attempt (F : Type 0) : Type 0 where
  pub ticket : ℕ
  pub task : Task
  pub fate : F
  pub waits : ℕ

module _ {F : Type 0} where
  abbrev pub attempts : List Started → List (Child F) → List (Attempt F)
  attempts [] cs = []
  attempts (k ∷ ks) [] = []
  attempts (k ∷ ks) (c ∷ cs) = record { ticket = k.ticket.number; task = k.task; fate = c.fate; waits = c.waits } ∷ attempts ks cs

  abbrev pub started_of : Attempt F → Started
  started_of x = record { ticket = record { number = x.ticket }; task = x.task }

  abbrev pub child_of : Attempt F → Child F
  child_of x = record { ticket = x.ticket; fate = x.fate; waits = x.waits }

  abbrev pub the_ticket : Attempt F → ℕ
  the_ticket x = x.ticket

  abbrev pub the_task : Attempt F → Task
  the_task x = x.task

  -- the live children are those that are kept, in one order
  abbrev pub ArePaired : List Started → List (Child F) → Type 0
  ArePaired ks cs = map number_of ks ≡ map ticket_of cs

  -- the two lists are those of these attempts
  pub record AreOf (ks : List Started) (cs : List (Child F)) (xs : List (Attempt F)) : Type 0 where
    pub kept : ks ≡ map started_of xs
    pub live : cs ≡ map child_of xs

  -- of another ticket
  abbrev pub is_other : ℕ → Attempt F → Bool
  is_other t x = not (t == x.ticket)

  -- these were started, one after another, each for the first ready task that had no child
  abbrev pub AreFirsts : List Task → List Task → List (Attempt F) → Type 0
  AreFirsts ready skip [] = Unit {0}
  AreFirsts ready skip (x ∷ xs) = (first_but skip ready ≡ Some x.task) × (x.waits ≡ 0) × AreFirsts ready (skip ++ x.task ∷ []) xs

  -- the same attempt once it was waited for in vain
  pub record HasWaited (x y : Attempt F) : Type 0 where
    pub ticket : y.ticket ≡ x.ticket
    pub task : y.task ≡ x.task
    pub fate : y.fate ≡ x.fate
    pub rose : RoseBy 1 x.waits y.waits
