use Rattle.std.proofs.Common.{sym, ◌∙◌}
use Rattle.mt_model.specs.State.{job_at}
use Rattle.jobs_rows.proofs.Stays.{ready_if}
use Rattle.jobs_rows.proofs.shown.put_all.Goals as goal

pub read-requires : goal.read-requires
read-requires c = ready_if (job_at c.args.jobs.now c.args.task.now.job) c.args.task.now.phase c.args.task.now.place (sym c.is_ready.ensures ∙ c.if-not-is_ready.false)
