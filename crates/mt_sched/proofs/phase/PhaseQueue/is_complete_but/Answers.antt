use Rattle.std.proofs.Common.{[], ◌∷◌, not, sym, ap, ◌∙◌}
use Rattle.std.specs.List.{find}
use Rattle.mt_sched.specs.Plan.{PhasePlan, has_task, task_at}
use Rattle.mt_sched.proofs.Skips.{none_beside}
use Rattle.mt_sched.proofs.phase.PhaseQueue.is_complete_but.Goals as goal

pub returns : goal.returns
returns c =
    let q = c.self.inside in
    none_beside q.phase c.args.place c.args.self.now.todo c.first_open.result c.is_none.result
    (c.first_open.ensures
    ∙ ap (λ skip. find (λ k. not (has_task skip (task_at 0 c.args.self.now.phase k))) c.args.self.now.todo) c.from_ref.ensures.value
    ∙ ap (λ (p : PhasePlan). find (λ k. not (has_task (task_at 0 q.phase c.args.place ∷ []) (task_at 0 p.phase k))) c.args.self.now.todo) (sym c.self.view_is))
    c.is_none.ensures
