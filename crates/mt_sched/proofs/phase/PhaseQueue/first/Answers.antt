use Rattle.std.proofs.Common.{ap, ◌∙◌}
use Rattle.std.specs.Option.{option_map}
use Rattle.mt_sched.specs.Plan.{PhasePlan, task_at}
use Rattle.mt_sched.proofs.Skips.{first_at}
use Rattle.mt_sched.proofs.phase.PhaseQueue.first.Goals as goal

pub returns : goal.returns
returns c =
    let q = c.args.self.now in
    c.task_of.ensures
    ∙ ap (λ (p : PhasePlan). option_map (task_at c.args.job p.phase) c.first_open.result) c.self.view_is
    ∙ ap (option_map (task_at c.args.job q.phase)) c.first_open.ensures
    ∙ first_at c.args.skip.now c.args.job q.phase q.todo
