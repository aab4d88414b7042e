-- The tests of a job by its queue.
use Rattle.std.specs.Prelude.{ℕ, Bool, not, ◌&&◌, if◌then◌else◌, Option, Some, None, Result, Ok, Err}
use Rattle.std.specs.Borrow.{Bor}
use Rattle.mt_types.specs.declared.job.Job.{Job}
use Rattle.mt_types.specs.declared.refusal.Refusal.{Refusal}
use Rattle.mt_types.specs.declared.refusal.Refusal.TheVariants.{JobNotFound, JobState, NotATask, AlreadyCommitted, NotComplete}
use Rattle.mt_model.specs.Rows.{first_refusal, refuse_if}
use Rattle.mt_model.specs.Tasks.{is_running}
use Rattle.mt_sched.specs.Plan.{Plan, is_committed_in, is_task_in, waits_in}
use Rattle.mt_sched.specs.PlanOfJob.{plan_of}

-- the plan of a job that runs, or why there is none
abbrev pub queue_of : {B : Type 0} → Option (Job B) → Result Plan Refusal
queue_of None = Err JobNotFound
queue_of (Some job) = if is_running job then Ok (plan_of job) else Err JobState

-- the plan in the place of a reference to it
abbrev pub plan_now : Result (Bor Plan) Refusal → Result Plan Refusal
plan_now (Ok plan) = Ok plan.now
plan_now (Err refusal) = Err refusal

-- why a task is not committed, by the plan of a job that runs
abbrev pub task_refusal : ℕ → ℕ → Plan → Option Refusal
task_refusal phase place plan =
    first_refusal (refuse_if (not (is_task_in plan phase place)) NotATask)
    (refuse_if (is_committed_in plan phase place) AlreadyCommitted)

-- why a job that runs is not closed, by its plan
abbrev pub end_refusal : Bool → Plan → Option Refusal
end_refusal cancelled plan = refuse_if (not cancelled && not (waits_in plan)) NotComplete
