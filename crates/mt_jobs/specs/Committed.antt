-- What the commit of a task leaves.
use Rattle.std.specs.Prelude.{◌≡◌, ◌+◌, ℕ, List, length}
use Rattle.mt_types.specs.declared.job.TraceEntry.{TraceEntry}
use Rattle.mt_types.specs.declared.task.Fate.{Fate}
use Rattle.mt_model.specs.Feed.{items_of}
use Rattle.mt_model.specs.JobSteps.{with_entry}
use Rattle.mt_model.specs.Resolve.{resolve}
use Rattle.mt_model.specs.Rows.{Rows}
use Rattle.mt_sched.specs.Plan.{Plan}
use Rattle.mt_sched.specs.PlanSteps.{committed_in, grown, with_plan}
use Rattle.mt_resolve.specs.Committing.{committing_of}
use Rattle.mt_feeds.specs.declared.kept.FedJob.{FedJob}
use Rattle.mt_feeds.specs.FedJob.{IsKept}

module _ {B : Type 0} where
  -- a commit has left the rows, the job and the plans as it is to
  pub record HasCommitted (old : FedJob B) (rows : Rows B) (plans : List (ℕ × Plan)) (phase place : ℕ) (fate : Fate B) (position moment : ℕ) (new : FedJob B) (left : Rows B) (later : List (ℕ × Plan)) : Type 0 where
    pub entry : TraceEntry B
    pub entry_is : entry ≡ record { phase = phase; place = place; position = position; outcome = (resolve (committing_of old.job phase place position moment) rows fate).outcome }
    pub rows_are : left ≡ (resolve (committing_of old.job phase place position moment) rows fate).rows
    pub job : new.job ≡ with_entry entry old.job
    pub kept : IsKept new
    pub plans_are : later ≡ with_plan plans old.job.number (λ plan. grown (committed_in plan phase place) (phase + 1) (length (items_of entry.outcome)))
