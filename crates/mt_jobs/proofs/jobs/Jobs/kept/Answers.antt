use Rattle.std.proofs.Common.{sym, ap, subst, ◌∙◌, Some, None}
use Rattle.mt_model.specs.State.{job_at}
use Rattle.mt_jobs.specs.JobList.{IsFound}
use Rattle.mt_jobs.proofs.Numbers.{found_job, found_none}
use Rattle.mt_jobs.proofs.jobs.Jobs.kept.Goals as goal

pub returns-in-Some-clause-job : goal.returns-in-Some-clause-job
returns-in-Some-clause-job g c =
    let kept = c.self.inside.jobs.items in
    let found = subst (λ l. IsFound c.args.number l (Some c.in-Some.place)) c.deref.ensures.value c.in-Some.ensures in
    sym (found_job c.args.number kept c.in-Some.place c.index.result.now found c.index.ensures).job ∙ ap (λ l. job_at l c.args.number) c.self.view_is

pub returns-in-None-clause-job : goal.returns-in-None-clause-job
returns-in-None-clause-job g c =
    let kept = c.self.inside.jobs.items in
    let found = subst (λ l. IsFound c.args.number l None) c.deref.ensures.value c.in-None.ensures in
    sym (found_none c.args.number kept found) ∙ ap (λ l. job_at l c.args.number) c.self.view_is
