use Rattle.std.proofs.Common.{ap, ◌∙◌}
use Rattle.mt_sched.specs.Plan.{all_ready, first_but}
use Rattle.mt_sched.proofs.Walks.{walk_all}
use Rattle.mt_sched.proofs.sched.Sched.next_ready.Goals as goal

pub returns : goal.returns
returns c =
    c.first_of_jobs.ensures
    ∙ ap (first_but c.args.skip.now) (walk_all c.self.inside.queues.entries c.self.inside.active.keys c.self.invariant.rising c.self.invariant.active_rising c.self.invariant.active)
    ∙ ap (λ l. first_but c.args.skip.now (all_ready l)) c.self.view_is
