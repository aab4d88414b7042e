use Rattle.std.proofs.Common.{sym, subst}
use Rattle.mt_sched.specs.Plans.{IsAbove}
use Rattle.mt_sched.proofs.Above.{above_without}
use Rattle.job_rows.proofs.queues.Queues.remove.Goals as goal

pub invariant_of-self : goal.invariant_of-self
invariant_of-self c = record {
  above = subst (IsAbove c.args.self.now.made) (sym c.remove.ensures) (above_without c.args.self.now.made _ c.args.self.now.sched c.args.self.now.above);
}
