use Rattle.std.proofs.Common.{sym, ap, ◌∙◌}
use Rattle.mt_sched.specs.PlanSteps.{ended_plan, with_plan}
use Rattle.mt_sched.proofs.Entries.{no_plan, with_plan_is}
use Rattle.mt_sched.proofs.sched.Sched.end.Goals as goal
use Rattle.mt_sched.proofs.sched.Sched.end.Goals.{in-Some, in_default}

pub returns-clause-ok : goal.returns-clause-ok
returns-clause-ok c =
    let change = ended_plan in
    elim c.match-get_mut.branch [
      | in-Some w ↦ ap (λ s. s.queues.entries) w.self-inside-is
          ∙ (c.get_mut.follows.holds w.end.new.self).0
          ∙ with_plan_is c.args.job change c.self.inside.queues.entries w.in-Some.queue.now w.end.new.self c.self.invariant.rising (sym w.in-Some.ensures.value) w.end.ensures
          ∙ ap (λ l. with_plan l c.args.job change) c.self.view_is
      | in_default w ↦ ap (λ s. s.queues.entries) w.self-inside-is
          ∙ ap (λ m. m.entries) c.get_mut.follows.holds-at-none
          ∙ sym (no_plan c.args.job change c.self.inside.queues.entries (sym w.in_default.ensures.value))
          ∙ ap (λ l. with_plan l c.args.job change) c.self.view_is
    ]
