use Rattle.std.proofs.Common.{◌==◌, ◌&&◌, cond, map, sym, ap, ◌∙◌}
use Rattle.std.specs.List.{list_all}
use Rattle.mt_model.proofs.Maps.{list_all-map}
use Rattle.mt_sched.specs.Plan.{PhasePlan, Plan, is_complete_phase, waits_in}
use Rattle.mt_sched.specs.PlanSteps.{committed_in, is_complete_after, without_place}
use Rattle.mt_sched.proofs.queue.Queue.waits_after.Goals as goal

pub returns-then-self : goal.returns-then-self
returns-then-self c =
    let q = c.self.inside in
    let after = λ (q : PhasePlan). cond (q.phase == c.args.phase) (without_place c.args.place q) q in
    c.are_complete_after.ensures
    ∙ ap (list_all (is_complete_after c.args.phase c.args.place)) c.deref.ensures.value
    ∙ sym (list_all-map after is_complete_phase q.phases.items)
    ∙ ap (λ b. b && list_all is_complete_phase (map after q.phases.items)) (sym c.if-self.true)
    ∙ ap (λ (p : Plan). waits_in (committed_in p c.args.phase c.args.place)) c.self.view_is
