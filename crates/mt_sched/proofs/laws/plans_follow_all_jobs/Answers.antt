use Rattle.mt_sched.proofs.Jobs.{plans_follow, plans_of_done, plans_of_new}
use Rattle.mt_sched.proofs.laws.plans_follow_all_jobs.Goals as goal

pub returns : goal.returns
returns c = record { made = plans_of_new; changed = plans_follow; done = plans_of_done }
