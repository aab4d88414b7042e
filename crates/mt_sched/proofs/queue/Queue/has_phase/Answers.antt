use Rattle.std.proofs.Common.{ap, subst, ◌≡◌, arith}
use Rattle.std.proofs.lemmas.Bool.{ltb-false}
use Rattle.mt_sched.specs.Plan.{Plan}
use Rattle.mt_sched.specs.PlanSteps.{fed, grown}
use Rattle.mt_sched.proofs.Phases.{no_phase}
use Rattle.mt_sched.proofs.queue.Queue.has_phase.Goals as goal

pub returns-clause-fed : goal.returns-clause-fed
returns-clause-fed c none count =
    subst (λ (q : Plan). grown q c.args.phase count ≡ q) c.self.view_is
    (ap {B = Plan} (λ l. record { phases = l; ended = c.self.inside.ended }) (no_phase c.args.phase (fed count) c.self.inside.phases.items c.self.invariant (omega (arith, c.len.ensures, ltb-false c.args.phase c.len.result none))))
