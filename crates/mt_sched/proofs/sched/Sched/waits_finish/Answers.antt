use Rattle.std.proofs.Common.{ap, ◌∙◌}
use Rattle.mt_sched.specs.Plan.{first_waiting}
use Rattle.mt_sched.proofs.Looks.{first_read}
use Rattle.mt_sched.proofs.Walks.{first_kept}
use Rattle.mt_sched.proofs.sched.Sched.waits_finish.Goals as goal

pub returns : goal.returns
returns c =
    c.copied.ensures
    ∙ first_read c.self.inside.finishing.keys c.first.result c.first.ensures.variant c.first.ensures.first
    ∙ first_kept c.self.inside.queues.entries c.self.inside.finishing.keys c.self.invariant.rising c.self.invariant.finishing_rising c.self.invariant.finishing
    ∙ ap first_waiting c.self.view_is
