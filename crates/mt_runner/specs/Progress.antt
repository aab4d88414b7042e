-- What a turn did to the counts of a spawner, and what was to be done.
use Rattle.std.specs.Prelude.{◌≡◌, ◌≢◌, ◌⊎◌, ℕ, ◌+◌, min, true, List, [], length, None, Some}
use Rattle.mt_base.specs.Counts.{NeverFell, Rose, RoseBy}
use Rattle.mt_types.specs.declared.body.Body.{Body}
use Rattle.mt_model.specs.State.{State}
use Rattle.mt_tasks.specs.Standing.{ready_tasks, waiting}
use Rattle.mt_runner.specs.Attends.{WorkSide}
use Rattle.mt_runner.specs.declared.turn.Turn.{Turn}
use Rattle.mt_runner.specs.declared.turn.Turn.TheVariants as turn

module _ {F : Type 0} where
  -- as many lived as the lesser of slots and ready tasks when a child's end was taken
  abbrev pub CompanyRose : ℕ → State Body → WorkSide F → WorkSide F → Type 0
  CompanyRose slots s old new = new.seen.company ≡ min 18446744073709551615 (old.seen.company + min slots (length (ready_tasks s)))

  -- by its answer
  abbrev pub Progress : ℕ → State Body → WorkSide F → Turn → WorkSide F → Type 0
  Progress slots s old (turn.Closed n) new = (waiting s ≡ Some n) × (new.seen.company ≡ old.seen.company)
  Progress slots s old (turn.Committed t) new = (waiting s ≡ None) × CompanyRose slots s old new × (length new.kept + 1 ≡ min slots (length (ready_tasks s)))
  Progress slots s old turn.Idle new = (waiting s ≡ None) × (ready_tasks s ≡ []) × (new.seen.company ≡ old.seen.company) × (new.engine ≡ old.engine)
  Progress slots s old turn.NotYet new = (waiting s ≡ None) × (ready_tasks s ≢ []) × RoseBy 1 old.seen.waits new.seen.waits × (new.seen.company ≡ old.seen.company) × (new.engine ≡ old.engine)
  Progress slots s old turn.SpawnFault new =
      (waiting s ≡ None) × (ready_tasks s ≢ []) × Rose old.seen.faults new.seen.faults × (CompanyRose slots s old new ⊎ (new.seen.company ≡ old.seen.company)) × (new.engine ≡ old.engine)
  Progress slots s old turn.Full new = (CompanyRose slots s old new ⊎ (new.seen.company ≡ old.seen.company)) × (new.engine ≡ old.engine)
  -- where the engine is closed with no job to be finished, a child's end was taken
  Progress slots s old turn.Disk new =
      Rose old.disk_faults new.disk_faults × (CompanyRose slots s old new ⊎ ((new.seen.company ≡ old.seen.company) × (waiting s ≡ None → new.engine.log.closed ≡ old.engine.log.closed)))
  Progress slots s old turn.Memory new = CompanyRose slots s old new ⊎ (new.seen.company ≡ old.seen.company)

  -- and, whatever the answer, no count fell
  pub record Progressed (slots : ℕ) (s : State Body) (old : WorkSide F) (end : Turn) (new : WorkSide F) : Type 0 where
    pub waits : NeverFell old.seen.waits new.seen.waits
    pub company : NeverFell old.seen.company new.seen.company
    pub by_end : Progress slots s old end new
