use Rattle.jobs_rows.proofs.Listed.{lawful_at}
use Rattle.jobs_rows.proofs.account.Account.job.Goals as goal

pub returns : goal.returns
returns c = lawful_at c.self.inside.position c.self.inside.jobs c.args.place c.at.result c.self.invariant.jobs.each c.at.ensures
