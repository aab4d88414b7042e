use Rattle.std.proofs.Common.{◌+◌, [], ◌∷◌, ◌++◌, take, sym, ap, subst, ◌∙◌, arith}
use Rattle.mt_sched.specs.Plan.{AreNumbered}
use Rattle.mt_sched.specs.PlanOfJob.{kinds_of}
use Rattle.mt_sched.specs.PlanSteps.{first_phase}
use Rattle.mt_sched.proofs.Starts.{first_numbered, first_phases_on}
use Rattle.mt_sched.proofs.queue.Queue.of.Goals as goal

pub loop-phase-preserved : goal.loop-phase-preserved
loop-phase-preserved c = record {
  queues =
      c.in_ok-push.ensures.items
      ∙ ap (λ q. c.loop-phase.queues.items ++ q ∷ []) (c.new.ensures ∙ ap (λ n. first_phase (n, c.phase-item.result.kind)) c.loop-phase.invariant.number)
      ∙ ap (λ l. l ++ first_phase (c.loop-phase.phase-index, c.phase-item.result.kind) ∷ []) c.loop-phase.invariant.queues
      ∙ first_phases_on c.args.phases.now c.loop-phase.phase-index c.phase-item.result (omega arith) c.phase-item.is;
  number = c.in-Some.ensures.1 ∙ ap (λ n. n + 1) c.loop-phase.invariant.number;
}

pub invariant_of-result : goal.invariant_of-result
invariant_of-result c = subst AreNumbered (sym c.loop-phase.invariant.queues) (first_numbered (kinds_of (take c.loop-phase.phase-index c.args.phases.now)))
