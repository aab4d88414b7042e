use Rattle.std.proofs.Common.{ap, ◌∙◌, find, option_map}
use Rattle.mt_model.specs.Tasks.{waits_finish}
use Rattle.mt_sched.specs.Plan.{first_waiting}
use Rattle.mt_sched.proofs.Plain.{first_waiting_plain}
use Rattle.mt_jobs.specs.JobList.{jobs_in}
use Rattle.mt_jobs.proofs.jobs.Jobs.waits_finish.Goals as goal

pub returns : goal.returns
returns g c =
    c.waits_finish.ensures
    ∙ ap first_waiting c.self.invariant.plans_are
    ∙ first_waiting_plain (jobs_in c.self.inside.jobs.items)
    ∙ ap (λ l. option_map (λ j. j.number) (find waits_finish l)) c.self.view_is
