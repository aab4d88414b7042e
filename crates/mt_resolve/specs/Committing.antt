-- What a commit needs of the task and of the names that are made for it.
use Rattle.std.specs.Prelude.{◌<◌, ◌≤◌, ◌^◌, ◌||◌, ℕ, List, length, IsTrue, codes, bytes_eq}
use Rattle.mt_path.specs.AccountPath.{IsComponent}
use Rattle.mt_types.specs.declared.job.Job.{Job}
use Rattle.mt_types.specs.declared.limits.TheConstants.{MOST_COMMANDS, MOST_PHASES}
use Rattle.mt_model.specs.JobSteps.{task_root}
use Rattle.mt_model.specs.Lawful.{is_archive_name}
use Rattle.mt_model.specs.Limits.{longest_root}
use Rattle.mt_model.specs.Resolve.{Committing}

-- the names of a task's outputs can be made: its job has a number, its phase is one of 16, and its root is short
pub record IsCommitting (c : Committing) : Type 0 where
  pub job : c.job < 2 ^ 62
  pub phase : c.phase < MOST_PHASES
  pub root : IsComponent c.root
  pub short : length c.root ≤ longest_root
  pub position : c.position < MOST_COMMANDS

-- `stor`, or one of the five names of an archive
abbrev pub IsFolderName : List ℕ → Type 0
IsFolderName name = IsTrue (bytes_eq name (codes "stor") || is_archive_name name)

module _ {B : Type 0} where
  -- the task that is committed
  abbrev pub committing_of : Job B → ℕ → ℕ → ℕ → ℕ → Committing
  committing_of job phase place position moment =
      record { job = job.number; phase = phase; root = task_root job phase place; position = position; moment = moment }
