use Rattle.std.proofs.lemmas.Result.{on_ok_weaker}
use Rattle.mt_model.specs.JobSteps.{close_refusal}
use Rattle.mt_model.specs.State.{job_at}
use Rattle.mt_jobs.proofs.Allowed.{there}
use Rattle.mt_jobs.proofs.Archived.{may_archive, number_small}
use Rattle.mt_jobs.proofs.States.{close_is}
use Rattle.mt_jobs.proofs.jobs.Jobs.close.Goals as goal

pub put_archive-requires-clause-job : goal.put_archive-requires-clause-job
put_archive-requires-clause-job g c =
    let it = there (job_at c.args.self.now c.args.job) (close_refusal c.args.cancelled) c.requires.allowed in
    number_small c.args.position c.args.tree.now c.args.self.now c.requires.rows c.requires.jobs c.requires.room c.args.job it.job it.is

pub put_archive-requires-clause-archive : goal.put_archive-requires-clause-archive
put_archive-requires-clause-archive g c =
    let it = there (job_at c.args.self.now c.args.job) (close_refusal c.args.cancelled) c.requires.allowed in
    may_archive c.args.position c.args.tree.now c.args.self.now c.requires.rows c.requires.jobs c.requires.room c.args.job it.job it.is

pub returns-clause-ok : goal.returns-clause-ok
returns-clause-ok g c =
    on_ok_weaker c.end_as.result
    (λ later. close_is c.args.position c.args.tree.now c.put_archive.new.tree c.args.self.now c.end_as.new.self c.args.job c.args.cancelled c.args.archive c.args.moment c.in_ok-put_archive.ensures later)
    c.end_as.ensures.ok
