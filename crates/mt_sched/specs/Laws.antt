-- The laws that connect plans with the plain lists of tasks of a job, and with the changes of a job.
use Rattle.std.specs.Prelude.{◌≡◌, ℕ, ◌+◌, Bool, true, false, List, [], ◌∷◌, ◌++◌, length, map, All, None, Some}
use Rattle.std.specs.List.{IsDistinct, find, flat_map}
use Rattle.std.specs.List.Sorted.{IsStrictlySortedBy}
use Rattle.std.specs.Option.{option_map, option_map_or}
use Rattle.std.specs.Ordering.{nat_cmp}
use Rattle.mt_types.specs.declared.document.InputLine.{InputLine}
use Rattle.mt_types.specs.declared.document.JobDocument.{JobDocument}
use Rattle.mt_types.specs.declared.job.Job.{Job}
use Rattle.mt_types.specs.declared.job.Task.{Task}
use Rattle.mt_types.specs.declared.job.TraceEntry.{TraceEntry}
use Rattle.mt_model.specs.Feed.{items_of}
use Rattle.mt_model.specs.JobSteps.{close_refusal, commit_refusal, done_at, new_job, with_end, with_entry, with_lines}
use Rattle.mt_model.specs.Rows.{Rows}
use Rattle.mt_model.specs.Sound.{Sound}
use Rattle.mt_model.specs.State.{job_at, with_job}
use Rattle.mt_model.specs.Tasks.{all_complete, is_committed, is_ready, is_running, is_task, ready, waits_finish}
use Rattle.mt_sched.specs.Plan.{Plan, all_ready, first_waiting, has_task, is_committed_in, is_complete_plan, is_ready_in, is_same_task, is_task_in, ready_in, waits_in}
use Rattle.mt_sched.specs.PlanOfJob.{inputs_in, kinds_of, plan_of, plans_of}
use Rattle.mt_sched.specs.PlanSteps.{committed_in, ended_plan, first_plan, grown, with_plan, without_plan}

-- of a job that runs the ready tasks are those of its plan, in the same order
abbrev pub ReadyIsPlain : Type 0 → Type 0
ReadyIsPlain B = (job : Job B) → is_running job ≡ true → ready_in job.number (plan_of job) ≡ ready job

-- it waits to be finished where its plan does
abbrev pub WaitsIsPlain : Type 0 → Type 0
WaitsIsPlain B = (job : Job B) → is_running job ≡ true → waits_in (plan_of job) ≡ waits_finish job

-- each of its tasks is committed where its plan is complete
abbrev pub CompleteIsPlain : Type 0 → Type 0
CompleteIsPlain B = (job : Job B) → is_complete_plan (plan_of job) ≡ all_complete job

-- the tasks of a job are those of its plan
abbrev pub TaskIsPlain : Type 0 → Type 0
TaskIsPlain B = (job : Job B) (phase place : ℕ) → is_task_in (plan_of job) phase place ≡ is_task job phase place

-- what is committed of the tasks of a job is so in its plan
abbrev pub CommittedIsPlain : Type 0 → Type 0
CommittedIsPlain B = (job : Job B) (phase place : ℕ) → is_task job phase place ≡ true → is_committed_in (plan_of job) phase place ≡ is_committed job.trace phase place

-- what is ready of a job that runs is so in its plan
abbrev pub OneReadyIsPlain : Type 0 → Type 0
OneReadyIsPlain B = (job : Job B) → is_running job ≡ true → (phase place : ℕ) → is_ready_in (plan_of job) phase place ≡ is_ready job phase place

-- the ready tasks of the jobs are those of the plans of the jobs that run
abbrev pub AllReadyIsPlain : Type 0 → Type 0
AllReadyIsPlain B = (jobs : List (Job B)) → all_ready (plans_of jobs) ≡ flat_map ready jobs

-- the first job that waits to be finished is the first of these plans that does
abbrev pub FirstWaitingIsPlain : Type 0 → Type 0
FirstWaitingIsPlain B = (jobs : List (Job B)) → first_waiting (plans_of jobs) ≡ option_map (λ j. j.number) (find waits_finish jobs)

-- a new job has the first plan of its phases
abbrev pub PlanOfNew : Type 0 → Type 0
PlanOfNew B = (rows : Rows B) (number : ℕ) (document : JobDocument) (moment : ℕ) → plan_of (new_job rows number document moment) ≡ first_plan (kinds_of document.phases)

-- posted lines grow the first phase by a place for each that becomes an input
abbrev pub PlanLines : Type 0 → Type 0
PlanLines B = (rows : Rows B) (lines : List InputLine) (job : Job B) → Sound job → plan_of (with_lines rows lines job) ≡ grown (plan_of job) 0 (inputs_in rows lines)

-- the end of the input ends the plan
abbrev pub PlanEnd : Type 0 → Type 0
PlanEnd B = (job : Job B) → plan_of (with_end job) ≡ ended_plan (plan_of job)

-- a committed task leaves the places of its phase that are not committed, and the next phase grows by its outputs
abbrev pub PlanCommit : Type 0 → Type 0
PlanCommit B = (job : Job B) (e : TraceEntry B) → Sound job
    → plan_of (with_entry e job) ≡ grown (committed_in (plan_of job) e.phase e.place) (e.phase + 1) (length (items_of e.outcome))

-- a change of a job that runs is followed by a change of its plan: it keeps its number, and runs on
pub record IsFollowed {B : Type 0} (change : Job B → Job B) (change_plan : Plan → Plan) (job : Job B) : Type 0 where
  pub number : (change job).number ≡ job.number
  pub runs : is_running (change job) ≡ is_running job
  pub plan : plan_of (change job) ≡ change_plan (plan_of job)

-- where one job is changed so, the plans of the jobs change at its number
abbrev pub PlansFollow : Type 0 → Type 0
PlansFollow B = (jobs : List (Job B)) (number : ℕ) (change : Job B → Job B) (change_plan : Plan → Plan)
    → All (λ j. j.number ≡ number → IsFollowed change change_plan j) jobs
    → plans_of (with_job jobs number change) ≡ with_plan (plans_of jobs) number change_plan

-- a new job has its plan behind the others
abbrev pub PlansOfNew : Type 0 → Type 0
PlansOfNew B = (jobs : List (Job B)) (job : Job B) → is_running job ≡ true → plans_of (jobs ++ job ∷ []) ≡ plans_of jobs ++ (job.number, plan_of job) ∷ []

-- a job that is done has none
abbrev pub PlansOfDone : Type 0 → Type 0
PlansOfDone B = (jobs : List (Job B)) (number moment : ℕ) (cancelled : Bool) → plans_of (with_job jobs number (done_at moment cancelled)) ≡ without_plan (plans_of jobs) number

-- the numbers of these jobs rise
abbrev pub Rise : {B : Type 0} → List (Job B) → Type 0
Rise jobs = IsStrictlySortedBy nat_cmp (map (λ j. j.number) jobs)

-- a task is among the ready ones of jobs whose numbers rise where it is ready of the job of its number
abbrev pub ReadyTasksAreReady : Type 0 → Type 0
ReadyTasksAreReady B = (jobs : List (Job B)) → Rise jobs → (t : Task)
    → has_task (flat_map ready jobs) t ≡ option_map_or (λ j. is_ready j t.phase t.place) (job_at jobs t.job) false

-- no two of the ready tasks of such jobs are the same
abbrev pub ReadyTasksAreApart : Type 0 → Type 0
ReadyTasksAreApart B = (jobs : List (Job B)) → Rise jobs → IsDistinct is_same_task (flat_map ready jobs)

-- the first job that waits to be finished is the one of its number, and may be closed
abbrev pub AJobThatWaits : Type 0 → Type 0
AJobThatWaits B = (jobs : List (Job B)) → Rise jobs → (j : Job B) → find waits_finish jobs ≡ Some j → (job_at jobs j.number ≡ Some j) × (close_refusal false j ≡ None)

-- a ready task may be committed
abbrev pub AReadyTask : Type 0 → Type 0
AReadyTask B = (j : Job B) (phase place : ℕ) → is_ready j phase place ≡ true → commit_refusal phase place j ≡ None
