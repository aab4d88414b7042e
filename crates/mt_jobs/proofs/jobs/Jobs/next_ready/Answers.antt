use Rattle.std.proofs.Common.{ap, ◌∙◌, flat_map}
use Rattle.mt_model.specs.Tasks.{ready}
use Rattle.mt_sched.specs.Plan.{all_ready, first_but}
use Rattle.mt_sched.proofs.Plain.{all_ready_plain}
use Rattle.mt_jobs.specs.JobList.{jobs_in}
use Rattle.mt_jobs.proofs.jobs.Jobs.next_ready.Goals as goal

pub returns : goal.returns
returns g c =
    c.next_ready.ensures
    ∙ ap (λ l. first_but c.args.skip.now (all_ready l)) c.self.invariant.plans_are
    ∙ ap (first_but c.args.skip.now) (all_ready_plain (jobs_in c.self.inside.jobs.items))
    ∙ ap (λ l. first_but c.args.skip.now (flat_map ready l)) c.self.view_is
