use Rattle.std.proofs.Common.{◌≡◌, sym, subst, ◌∙◌}
use Rattle.std.specs.BTreeMap.{is_at}
use Rattle.std.specs.Ordering.{nat_cmp}
use Rattle.std.proofs.lemmas.Map.Steps.{set_value_same}
use Rattle.mt_sched.specs.Plan.{Plan}
use Rattle.mt_sched.specs.PlanSteps.{grown, with_plan}
use Rattle.mt_sched.proofs.Entries.{no_plan, with_plan_is}
use Rattle.mt_sched.proofs.sched.Sched.has_phase.Goals as goal

pub returns-in-Some : goal.returns-in-Some
returns-in-Some c none count =
    let change = λ (plan : Plan). grown plan c.args.phase count in
    let entries = c.self.inside.queues.entries in
    let queue = c.in-Some.queue.now in
    subst (λ plans. with_plan plans c.args.job change ≡ plans) c.self.view_is
    (sym (with_plan_is c.args.job change entries queue queue c.self.invariant.rising (sym c.in-Some.ensures.value) (sym (c.has_phase.ensures.fed none count)))
    ∙ set_value_same (is_at (nat_cmp c.args.job)) entries queue (sym c.in-Some.ensures.value))

pub returns-in-None : goal.returns-in-None
returns-in-None c none count =
    let change = λ (plan : Plan). grown plan c.args.phase count in
    subst (λ plans. with_plan plans c.args.job change ≡ plans) c.self.view_is (no_plan c.args.job change c.self.inside.queues.entries (sym c.in-None.ensures.value))
