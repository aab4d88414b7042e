-- The tests of a job are those of its queue, while it runs.
use Rattle.std.proofs.Common.{◌≡◌, ℕ, Bool, true, false, not, cond, ◌&&◌, Option, Some, None, Result, Ok, Err, refl, sym, ap, ◌∙◌}
use Rattle.std.specs.Prelude.{is_some}
use Rattle.mt_types.specs.declared.job.Job.{Job}
use Rattle.mt_types.specs.declared.refusal.Refusal.{Refusal}
use Rattle.mt_types.specs.declared.refusal.Refusal.TheVariants.{JobNotFound, JobState, NotATask, AlreadyCommitted, NotComplete}
use Rattle.mt_model.specs.JobSteps.{close_refusal, commit_refusal, finish_refusal, job_refusal, running_refusal}
use Rattle.mt_model.specs.Rows.{first_refusal, refuse_if}
use Rattle.mt_model.specs.Tasks.{is_committed, is_running, is_task, waits_finish}
use Rattle.mt_sched.specs.Plan.{Plan, is_committed_in}
use Rattle.mt_sched.specs.PlanOfJob.{plan_of}
use Rattle.mt_sched.proofs.Plain.{committed_plain, task_plain, waits_plain}
use Rattle.mt_tree.specs.Answer.{answer}
use Rattle.mt_jobs.specs.Queues.{end_refusal, queue_of, task_refusal}
use Rattle.mt_jobs.proofs.Numbers.{plan_if}

err_is : (a b : Refusal) → ◌≡◌ {A = Result Plan Refusal} (Err a) (Err b) → a ≡ b
err_is a b e = cc

module _ {B : Type 0} where
  -- ---- the queue of a job

  -- where there is a plan the job runs, and it is its plan
  pub queue_there : (o : Option (Job B)) (plan : Plan) → plan_if o ≡ Some plan → queue_of o ≡ Ok plan
  queue_there None plan is = cc
  queue_there (Some job) plan is = by (is_running job) is
    where
      by : (b : Bool) → cond b (Some (plan_of job)) None ≡ Some plan → cond b (Ok (plan_of job)) (Err JobState) ≡ Ok plan
      by true is = let same : plan_of job ≡ plan = cc in ap Ok same
      by false is = cc

  pub queue_done : (job : Job B) → plan_if (Some job) ≡ None → queue_of (Some job) ≡ Err JobState
  queue_done job is = by (is_running job) is
    where
      by : (b : Bool) → cond b (Some (plan_of job)) None ≡ None → cond b (Ok (plan_of job)) (Err JobState) ≡ Err JobState
      by true is = cc
      by false is = refl

  pub queue_ended : (o : Option (Job B)) → is_some o ≡ true → plan_if o ≡ None → queue_of o ≡ Err JobState
  queue_ended None some is = cc
  queue_ended (Some job) some is = queue_done job is

  -- ---- a test, and the same by the queue

  state_case : (job : Job B) (test : Job B → Option Refusal) (refusal : Refusal) (b : Bool) → is_running job ≡ b → (is_running job ≡ false → test job ≡ Some JobState) → cond b (Ok (plan_of job)) (Err JobState) ≡ Err refusal → Err refusal ≡ answer (test job)
  state_case job test refusal true runs done is = cc
  state_case job test refusal false runs done is = let same : JobState ≡ refusal = cc in sym (ap answer (done runs) ∙ ap (λ r. Err r) same)

  -- a job without a queue is refused for that
  pub refused_first : (test : Job B → Option Refusal) → ((job : Job B) → is_running job ≡ false → test job ≡ Some JobState) → (o : Option (Job B)) (refusal : Refusal) → queue_of o ≡ Err refusal → Err refusal ≡ answer (job_refusal o test)
  refused_first test done None refusal is = ap (λ r. Err r) (sym (err_is JobNotFound refusal is))
  refused_first test done (Some job) refusal is = state_case job test refusal (is_running job) refl (done job) is

  judged_case : (test : Job B → Option Refusal) (by_plan : Plan → Option Refusal) (job : Job B) (plan : Plan) (b : Bool) → is_running job ≡ b → (is_running job ≡ true → test job ≡ by_plan (plan_of job)) → cond b (Ok (plan_of job)) (Err JobState) ≡ Ok plan → by_plan plan ≡ test job
  judged_case test by_plan job plan true runs same is = let plan_is : plan_of job ≡ plan = cc in ap by_plan (sym plan_is) ∙ sym (same runs)
  judged_case test by_plan job plan false runs same is = cc

  -- a job with a queue is judged by it
  pub judged : (test : Job B → Option Refusal) (by_plan : Plan → Option Refusal) → ((job : Job B) → is_running job ≡ true → test job ≡ by_plan (plan_of job)) → (o : Option (Job B)) (plan : Plan) → queue_of o ≡ Ok plan → answer (by_plan plan) ≡ answer (job_refusal o test)
  judged test by_plan same None plan is = cc
  judged test by_plan same (Some job) plan is = ap answer (judged_case test by_plan job plan (is_running job) refl (same job) is)

  -- ---- the four tests

  pub running_done : (job : Job B) → is_running job ≡ false → running_refusal job ≡ Some JobState
  running_done job done = ap (λ b. refuse_if (not b) JobState) done

  pub running_on : (job : Job B) → is_running job ≡ true → running_refusal job ≡ None
  running_on job runs = ap (λ b. refuse_if (not b) JobState) runs

  pub commit_done : (phase place : ℕ) (job : Job B) → is_running job ≡ false → commit_refusal phase place job ≡ Some JobState
  commit_done phase place job done =
      ap (λ r. first_refusal r (first_refusal (refuse_if (not (is_running job && is_task job phase place)) NotATask) (refuse_if (is_committed job.trace phase place) AlreadyCommitted))) (running_done job done)

  task_case : (job : Job B) (phase place : ℕ) (t : Bool) → is_task job phase place ≡ t → first_refusal (refuse_if (not t) NotATask) (refuse_if (is_committed job.trace phase place) AlreadyCommitted) ≡ first_refusal (refuse_if (not t) NotATask) (refuse_if (is_committed_in (plan_of job) phase place) AlreadyCommitted)
  task_case job phase place true task = ap (λ b. refuse_if b AlreadyCommitted) (sym (committed_plain job phase place task))
  task_case job phase place false task = refl

  pub commit_by_plan : (phase place : ℕ) (job : Job B) → is_running job ≡ true → commit_refusal phase place job ≡ task_refusal phase place (plan_of job)
  commit_by_plan phase place job runs =
      ap (λ r. first_refusal r (first_refusal (refuse_if (not (is_running job && is_task job phase place)) NotATask) (refuse_if (is_committed job.trace phase place) AlreadyCommitted))) (running_on job runs)
      ∙ ap (λ b. first_refusal (refuse_if (not (b && is_task job phase place)) NotATask) (refuse_if (is_committed job.trace phase place) AlreadyCommitted)) runs
      ∙ task_case job phase place (is_task job phase place) refl
      ∙ ap (λ t. first_refusal (refuse_if (not t) NotATask) (refuse_if (is_committed_in (plan_of job) phase place) AlreadyCommitted)) (sym (task_plain job phase place))

  pub close_done : (cancelled : Bool) (job : Job B) → is_running job ≡ false → close_refusal cancelled job ≡ Some JobState
  close_done cancelled job done = ap (λ r. first_refusal r (refuse_if (not cancelled && not (waits_finish job)) NotComplete)) (running_done job done)

  pub close_by_plan : (cancelled : Bool) (job : Job B) → is_running job ≡ true → close_refusal cancelled job ≡ end_refusal cancelled (plan_of job)
  close_by_plan cancelled job runs =
      ap (λ r. first_refusal r (refuse_if (not cancelled && not (waits_finish job)) NotComplete)) (running_on job runs)
      ∙ ap (λ w. refuse_if (not cancelled && not w) NotComplete) (sym (waits_plain job runs))

  pub finish_done : (job : Job B) → is_running job ≡ false → finish_refusal job ≡ Some JobState
  finish_done job done = close_done false job done

  pub finish_by_plan : (job : Job B) → is_running job ≡ true → finish_refusal job ≡ end_refusal false (plan_of job)
  finish_by_plan job runs = close_by_plan false job runs
