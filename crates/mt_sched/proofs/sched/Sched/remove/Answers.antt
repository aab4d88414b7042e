use Rattle.std.proofs.Common.{ap, ◌∙◌}
use Rattle.mt_sched.specs.PlanSteps.{without_plan}
use Rattle.mt_sched.proofs.Entries.{without_plan_is}
use Rattle.mt_sched.proofs.sched.Sched.remove.Goals as goal

pub returns : goal.returns
returns c = c.remove.ensures.entries ∙ without_plan_is c.args.job c.self.inside.queues.entries c.self.invariant.rising ∙ ap (λ l. without_plan l c.args.job) c.self.view_is
