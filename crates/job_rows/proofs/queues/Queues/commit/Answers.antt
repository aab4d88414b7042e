use Rattle.mt_sched.proofs.Above.{above_after}
use Rattle.job_rows.proofs.queues.Queues.commit.Goals as goal

pub invariant_of-self : goal.invariant_of-self
invariant_of-self c = record {
  above = above_after c.commit.result c.args.self.now.made _ _ c.args.self.now.sched c.commit.new.self c.commit.ensures.ok c.commit.ensures.err c.args.self.now.above;
}
