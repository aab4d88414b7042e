use Rattle.std.proofs.Common.{not, ◌∙◌, ap, sym, arith}
use Rattle.mt_sched.specs.Plan.{has_task, task_at}
use Rattle.mt_sched.proofs.Places.{find_on}
use Rattle.mt_sched.proofs.phase.first_of_rest.Goals as goal

pub loop-place-preserved : goal.loop-place-preserved
loop-place-preserved c =
    find_on (λ k. not (has_task c.args.skip.now (task_at c.args.job c.args.phase k))) c.loop-place.place c.args.places (omega arith) (ap not (sym c.has_task.ensures ∙ c.if-not-has_task.false))
    ∙ c.loop-place.invariant
