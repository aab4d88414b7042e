use Rattle.std.proofs.Common.{sym, ◌∙◌}
use Rattle.mt_model.specs.JobSteps.{close_refusal}
use Rattle.mt_model.specs.State.{job_at}
use Rattle.mt_jobs.specs.Queues.{end_refusal}
use Rattle.mt_jobs.proofs.Tests.{close_by_plan, judged}
use Rattle.mt_jobs.proofs.jobs.Jobs.may_close.Goals as goal

pub returns : goal.returns
returns g c =
    c.end_test.ensures
    ∙ judged (close_refusal c.args.cancelled) (end_refusal c.args.cancelled) (close_by_plan c.args.cancelled) (job_at c.args.self.now c.args.job) c.in_ok-queue.queue.now (sym c.in_ok-queue.ensures)
