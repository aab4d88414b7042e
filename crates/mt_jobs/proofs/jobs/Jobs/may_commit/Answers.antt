use Rattle.std.proofs.Common.{sym, ◌∙◌}
use Rattle.mt_model.specs.JobSteps.{commit_refusal}
use Rattle.mt_model.specs.State.{job_at}
use Rattle.mt_jobs.specs.Queues.{task_refusal}
use Rattle.mt_jobs.proofs.Tests.{commit_by_plan, judged}
use Rattle.mt_jobs.proofs.jobs.Jobs.may_commit.Goals as goal

pub returns : goal.returns
returns g c =
    let phase = c.args.task.now.phase in
    let place = c.args.task.now.place in
    c.task_test.ensures
    ∙ judged (commit_refusal phase place) (task_refusal phase place) (commit_by_plan phase place) (job_at c.args.self.now c.args.task.now.job) c.in_ok-queue.queue.now (sym c.in_ok-queue.ensures)
