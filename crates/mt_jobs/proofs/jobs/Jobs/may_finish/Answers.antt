use Rattle.std.proofs.Common.{sym, ◌∙◌, false}
use Rattle.mt_model.specs.JobSteps.{finish_refusal}
use Rattle.mt_model.specs.State.{job_at}
use Rattle.mt_jobs.specs.Queues.{end_refusal}
use Rattle.mt_jobs.proofs.Tests.{finish_by_plan, judged}
use Rattle.mt_jobs.proofs.jobs.Jobs.may_finish.Goals as goal

pub returns : goal.returns
returns g c =
    c.end_test.ensures ∙ judged finish_refusal (end_refusal false) finish_by_plan (job_at c.args.self.now c.args.job) c.in_ok-queue.queue.now (sym c.in_ok-queue.ensures)
