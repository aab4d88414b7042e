use Rattle.std.proofs.Common.{◌≡◌, false, Some, None, sym, ap, ◌∙◌}
use Rattle.std.specs.Option.{option_map_or}
use Rattle.mt_model.specs.State.{job_at}
use Rattle.mt_model.specs.Tasks.{is_ready}
use Rattle.mt_sched.specs.Plans.{plan_at}
use Rattle.mt_jobs.specs.JobList.{jobs_in}
use Rattle.mt_jobs.proofs.Asked.{ready_never, ready_there}
use Rattle.mt_jobs.proofs.Numbers.{plan_if, plan_where}
use Rattle.mt_jobs.proofs.jobs.Jobs.is_ready.Goals as goal

pub returns-in-Some : goal.returns-in-Some
returns-in-Some g c =
    let t = c.args.task.now in
    let jobs = jobs_in c.self.inside.jobs.items in
    let plan : plan_if (job_at jobs t.job) ≡ Some c.in-Some.queue.now =
    sym (plan_where t.job jobs c.self.invariant.rising) ∙ sym (ap (λ p. plan_at p t.job) c.self.invariant.plans_are) ∙ sym c.in-Some.ensures in
    c.is_ready.ensures ∙ ready_there t.phase t.place (job_at jobs t.job) c.in-Some.queue.now plan
    ∙ ap (λ l. option_map_or (λ j. is_ready j t.phase t.place) (job_at l t.job) false) c.self.view_is

pub returns-in-None : goal.returns-in-None
returns-in-None g c =
    let t = c.args.task.now in
    let jobs = jobs_in c.self.inside.jobs.items in
    let plan : plan_if (job_at jobs t.job) ≡ None =
    sym (plan_where t.job jobs c.self.invariant.rising) ∙ sym (ap (λ p. plan_at p t.job) c.self.invariant.plans_are) ∙ sym c.in-None.ensures in
    ready_never t.phase t.place (job_at jobs t.job) plan ∙ ap (λ l. option_map_or (λ j. is_ready j t.phase t.place) (job_at l t.job) false) c.self.view_is
