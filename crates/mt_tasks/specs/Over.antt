-- The commit of a task over the bytes that may be read for its fate.
use Rattle.std.specs.Prelude.{◌≡◌, ℕ, Option}
use Rattle.mt_types.specs.declared.command.Command.{Command}
use Rattle.mt_types.specs.declared.job.Task.{Task}
use Rattle.mt_types.specs.declared.task.Fate.{Fate}
use Rattle.mt_types.specs.declared.task.Raw.{Raw}
use Rattle.mt_model.specs.Honest.{Bytes}
use Rattle.mt_model.specs.State.{State}
use Rattle.mt_records.specs.Laws.{IsOfRange, IsOver}
use Rattle.mt_records.specs.declared.range.Range.{Range}
use Rattle.mt_tasks.specs.Adding.{IsFree}
use Rattle.mt_tasks.specs.Sizes.{commit_of}

-- the commit of a task, of a fate that is this one over such bytes
pub record IsCommitOver (told : Option Raw) (f : Fate Range) (t : Task) (now : ℕ) (s : State Bytes) (c : Command Bytes) : Type 0 where
  pub of_fate : Fate Bytes
  pub is : c ≡ commit_of t now of_fate
  pub over : IsOver (IsOfRange told) f of_fate
  pub is_free : IsFree s c
