-- How slots are filled.
use Rattle.std.specs.Prelude.{◌≡◌, ◌⊎◌, ℕ, true, List, [], ◌∷◌, ◌++◌, length, map, Option, Some, None, is_some}
use Rattle.std.specs.List.{AllByRecursion}
use Rattle.mt_base.specs.Counts.{NeverFell, Rose}
use Rattle.mt_types.specs.declared.body.Body.{Body}
use Rattle.mt_types.specs.declared.job.Task.{Task}
use Rattle.mt_model.specs.State.{State}
use Rattle.mt_spawn.specs.Children.{SameCounts}
use Rattle.mt_sched.specs.Plan.{first_but}
use Rattle.mt_tasks.specs.Standing.{ready_tasks}
use Rattle.mt_runner.specs.Attempts.{AreFirsts, AreOf, Attempt, the_task}
use Rattle.mt_runner.specs.Attends.{Live, Stopped, WorkSide, attempts_in}
use Rattle.mt_runner.specs.declared.fill.Begun.{Begun}
use Rattle.mt_runner.specs.declared.fill.Begun.TheVariants as begun
use Rattle.mt_runner.specs.declared.fill.Filled.{Filled}
use Rattle.mt_runner.specs.declared.fill.Filled.TheVariants as filled

module _ {F : Type 0} (Is : Task → F → Type 0) (s : State Body) where
  -- one more was started
  pub record BeginsOne (old new : WorkSide F) : Type 0 where
    pub x : Attempt F
    pub next : first_but (map the_task (attempts_in old)) (ready_tasks s) ≡ Some x.task
    pub unwaited : x.waits ≡ 0
    pub right : Is x.task x.fate
    pub live : Live (attempts_in old ++ x ∷ []) old new
    pub faults : NeverFell old.seen.faults new.seen.faults

  -- a start, by its answer
  abbrev pub Begins : WorkSide F → Begun → WorkSide F → Type 0
  Begins old begun.Began new = BeginsOne old new
  Begins old begun.NoTask new = (first_but (map the_task (attempts_in old)) (ready_tasks s) ≡ None) × Live (attempts_in old) old new × NeverFell old.seen.faults new.seen.faults
  Begins old begun.SpawnFault new = Stopped s (attempts_in old) old new × Rose old.seen.faults new.seen.faults
  Begins old begun.Disk new = Stopped s (attempts_in old) old new × NeverFell old.seen.faults new.seen.faults × Rose old.disk_faults new.disk_faults
  Begins old begun.Memory new = Stopped s (attempts_in old) old new × NeverFell old.seen.faults new.seen.faults

  -- these were started, one after another
  pub record HasBegun (old new : WorkSide F) : Type 0 where
    pub started : List (Attempt F)
    pub firsts : AreFirsts (ready_tasks s) (map the_task (attempts_in old)) started
    pub right : AllByRecursion (λ x. Is x.task x.fate) started
    pub live : Live (attempts_in old ++ started) old new
    pub faults : NeverFell old.seen.faults new.seen.faults

  -- starts, by their answer
  abbrev pub Fills : ℕ → WorkSide F → Filled → WorkSide F → Type 0
  Fills slots old filled.Whole new =
      (b : HasBegun old new) × ((first_but (map the_task (attempts_in old ++ b.started)) (ready_tasks s) ≡ None) ⊎ (length (attempts_in old ++ b.started) ≡ slots))
  Fills slots old filled.SpawnFault new =
      (b : HasBegun old new) × (is_some (first_but (map the_task (attempts_in old ++ b.started)) (ready_tasks s)) ≡ true) × Rose old.seen.faults new.seen.faults
  Fills slots old filled.Disk new =
      (b : HasBegun old new) × (is_some (first_but (map the_task (attempts_in old ++ b.started)) (ready_tasks s)) ≡ true) × Rose old.disk_faults new.disk_faults
  Fills slots old filled.Memory new =
      (b : HasBegun old new) × (is_some (first_but (map the_task (attempts_in old ++ b.started)) (ready_tasks s)) ≡ true)
