-- Whether a task is ready, by the plan of its job.
use Rattle.std.proofs.Common.{◌≡◌, ℕ, Bool, true, false, cond, not, ◌&&◌, Option, Some, None, refl, sym, ap, ◌∙◌}
use Rattle.std.specs.Option.{option_map_or}
use Rattle.mt_types.specs.declared.job.Job.{Job}
use Rattle.mt_model.specs.Tasks.{is_committed, is_ready, is_running, is_task}
use Rattle.mt_sched.specs.Plan.{Plan, is_ready_in}
use Rattle.mt_sched.specs.PlanOfJob.{plan_of}
use Rattle.mt_sched.proofs.Plain.{one_ready_plain}
use Rattle.mt_jobs.proofs.Numbers.{plan_if}

module _ {B : Type 0} (phase place : ℕ) where
  there_case : (job : Job B) (plan : Plan) (b : Bool) → is_running job ≡ b → cond b (Some (plan_of job)) None ≡ Some plan → is_ready_in plan phase place ≡ is_ready job phase place
  there_case job plan true runs is = let same : plan_of job ≡ plan = cc in ap (λ p. is_ready_in p phase place) (sym same) ∙ one_ready_plain job runs phase place
  there_case job plan false runs is = cc

  pub ready_there : (o : Option (Job B)) (plan : Plan) → plan_if o ≡ Some plan → is_ready_in plan phase place ≡ option_map_or (λ j. is_ready j phase place) o false
  ready_there None plan is = cc
  ready_there (Some job) plan is = there_case job plan (is_running job) refl is

  never_case : (job : Job B) (b : Bool) → is_running job ≡ b → cond b (Some (plan_of job)) None ≡ None → false ≡ is_ready job phase place
  never_case job true runs is = cc
  never_case job false runs is = sym (ap (λ r. (r && is_task job phase place) && not (is_committed job.trace phase place)) runs)

  pub ready_never : (o : Option (Job B)) → plan_if o ≡ None → false ≡ option_map_or (λ j. is_ready j phase place) o false
  ready_never None is = refl
  ready_never (Some job) is = never_case job (is_running job) refl is
