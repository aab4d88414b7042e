use Rattle.std.proofs.Common.{◌+◌, ap, ◌∙◌}
use Rattle.mt_types.specs.declared.document.PhaseKind.TheVariants.{Map}
use Rattle.mt_sched.specs.Plan.{PhasePlan, open_places}
use Rattle.mt_sched.specs.PlanSteps.{fed_to}
use Rattle.mt_sched.proofs.Places.{open_more}
use Rattle.mt_sched.proofs.phase.PhaseQueue.add.Goals as goal

pub returns-in-Some-clause-ok : goal.returns-in-Some-clause-ok
returns-in-Some-clause-ok c =
    let q = c.self.inside in
    ap {B = PhasePlan} (λ m. record { phase = q.phase; kind = q.kind; places = m; todo = open_places q.passed.keys q.rest m }) c.in-Some.ensures.1
    ∙ ap {B = PhasePlan} (λ l. record { phase = q.phase; kind = q.kind; places = q.places + c.args.count; todo = l }) (open_more q.passed.keys q.rest q.places c.args.count c.self.invariant.most)
    ∙ ap (fed_to c.args.count Map) c.self.view_is
