-- What a wait for the children that are kept does.
use Rattle.std.specs.Prelude.{◌≡◌, ℕ, ◌+◌, min, List, [], ◌∷◌, ◌++◌, length, Option, Some, None}
use Rattle.std.specs.List.{AllZip}
use Rattle.mt_base.specs.Counts.{NeverFell, Rose, RoseBy}
use Rattle.mt_types.specs.declared.job.Task.{Task}
use Rattle.mt_types.specs.declared.task.Raw.{Raw}
use Rattle.mt_spawn.specs.Children.{MayBe}
use Rattle.mt_spawn.specs.declared.task.Left.{Left}
use Rattle.mt_runner.specs.Attempts.{AreOf, Attempt, HasWaited}
use Rattle.mt_runner.specs.Attends.{Gone, Live, Lost, WorkSide, attempts_in}
use Rattle.mt_runner.specs.declared.awaiting.Came.{Came}
use Rattle.mt_runner.specs.declared.awaiting.Came.TheVariants as came

module _ {F : Type 0} where
  -- each was waited for in vain
  pub record NoneCame (old new : WorkSide F) : Type 0 where
    pub zs : List (Attempt F)
    pub waited : AllZip HasWaited (attempts_in old) zs
    pub are : AreOf new.kept new.seen.live zs
    pub waits : RoseBy 1 old.seen.waits new.seen.waits
    pub company : new.seen.company ≡ old.seen.company
    pub faults : NeverFell old.seen.faults new.seen.faults

module _ {F : Type 0} (may : F → Raw → Type 0) where
  -- the child of this task has ended, and what it left is held
  pub record HasCome (t : Task) (left : Left) (told : Option Raw) (old new : WorkSide F) : Type 0 where
    pub x : Attempt F
    pub its : x.task ≡ t
    pub gone : Gone (attempts_in old) x old new
    pub given : MayBe (may x.fate) left told
    pub company : new.seen.company ≡ min 18446744073709551615 (old.seen.company + length (attempts_in old))
    pub faults : NeverFell old.seen.faults new.seen.faults

  -- a wait, by its answer: what is held behind it, and what is told of that
  abbrev pub Awaits : WorkSide F → Came → Option Left → Option Raw → WorkSide F → Type 0
  Awaits old (came.Ended task left) held told new = HasCome task left told old new × (held ≡ Some left)
  Awaits old came.NotYet held told new = NoneCame old new × (held ≡ None)
  Awaits old came.Failed held told new = Lost (attempts_in old) old new × Rose old.seen.faults new.seen.faults × (held ≡ None)
  Awaits old came.Lost held told new = Lost (attempts_in old) old new × NeverFell old.seen.faults new.seen.faults × (held ≡ None)
  Awaits old came.Memory held told new = Live (attempts_in old) old new × NeverFell old.seen.faults new.seen.faults × (held ≡ None)
