use Rattle.std.proofs.Common.{[], ◌∷◌, ◌++◌, sym, ap, subst, ◌∙◌}
use Rattle.mt_sched.specs.Plans.{IsAbove}
use Rattle.mt_sched.specs.Plan.{has_ready_in, waits_in}
use Rattle.mt_sched.specs.PlanOfJob.{kinds_of}
use Rattle.mt_sched.specs.PlanSteps.{first_plan}
use Rattle.mt_sched.proofs.Entries.{insert_above}
use Rattle.mt_sched.proofs.Sets.{sched_with}
use Rattle.mt_sched.proofs.Starts.{first_not_ready, first_not_waiting, none_above}
use Rattle.mt_sched.proofs.sched.Sched.add.Goals as goal

pub invariant_of-self-2 : goal.invariant_of-self-2
invariant_of-self-2 c =
    sched_with c.self.inside.queues.entries c.insert.new.self.entries c.self.inside.active.keys c.self.inside.finishing.keys c.args.job c.in_ok-queue.queue c.self.invariant c.in_ok-insert.ensures.ordered
    (none_above c.args.job c.self.inside.queues.entries (subst (IsAbove c.args.job) (sym c.self.view_is) c.requires.above))
    (ap has_ready_in c.in_ok-queue.ensures ∙ first_not_ready (kinds_of c.args.phases.now))
    (ap waits_in c.in_ok-queue.ensures ∙ first_not_waiting (kinds_of c.args.phases.now))
    c.in_ok-insert.ensures.updates.0

pub returns-clause-ok : goal.returns-clause-ok
returns-clause-ok c =
    c.in_ok-insert.ensures.entries
    ∙ insert_above c.args.job c.in_ok-queue.queue c.self.inside.queues.entries (subst (IsAbove c.args.job) (sym c.self.view_is) c.requires.above)
    ∙ ap (λ q. c.self.inside.queues.entries ++ (c.args.job, q) ∷ []) c.in_ok-queue.ensures
    ∙ ap (λ l. l ++ (c.args.job, first_plan (kinds_of c.args.phases.now)) ∷ []) c.self.view_is
