use Rattle.std.proofs.Common.{◌≡◌, sym, ap, ◌∙◌, true, Some, None}
use Rattle.std.specs.Prelude.{is_some}
use Rattle.mt_model.specs.State.{job_at}
use Rattle.mt_sched.specs.Plans.{plan_at}
use Rattle.mt_jobs.specs.JobList.{jobs_in}
use Rattle.mt_jobs.specs.Queues.{queue_of}
use Rattle.mt_jobs.proofs.Numbers.{plan_if, plan_where}
use Rattle.mt_resolve.proofs.References.{copied_some}
use Rattle.mt_jobs.proofs.Tests.{queue_ended, queue_there}
use Rattle.mt_jobs.proofs.jobs.Jobs.queue.Goals as goal

pub returns-in-Some : goal.returns-in-Some
returns-in-Some g c =
    let jobs = jobs_in c.self.inside.jobs.items in
    let plan : plan_if (job_at jobs c.args.job) ≡ Some c.in-Some.queue.now =
    sym (plan_where c.args.job jobs c.self.invariant.rising) ∙ sym (ap (λ p. plan_at p c.args.job) c.self.invariant.plans_are) ∙ sym c.in-Some.ensures in
    sym (queue_there (job_at jobs c.args.job) c.in-Some.queue.now plan) ∙ ap (λ l. queue_of (job_at l c.args.job)) c.self.view_is

pub returns-then-is_some : goal.returns-then-is_some
returns-then-is_some g c =
    let jobs = jobs_in c.self.inside.jobs.items in
    let plan : plan_if (job_at jobs c.args.job) ≡ None =
    sym (plan_where c.args.job jobs c.self.invariant.rising) ∙ sym (ap (λ p. plan_at p c.args.job) c.self.invariant.plans_are) ∙ sym c.in-None.ensures in
    let there : is_some (job_at jobs c.args.job) ≡ true =
    ap (λ l. is_some (job_at l c.args.job)) c.self.view_is ∙ sym (ap is_some c.get-in-None.ensures) ∙ copied_some c.get-in-None.result ∙ sym c.is_some.ensures ∙ c.if-is_some.true in
    sym (queue_ended (job_at jobs c.args.job) there plan) ∙ ap (λ l. queue_of (job_at l c.args.job)) c.self.view_is
