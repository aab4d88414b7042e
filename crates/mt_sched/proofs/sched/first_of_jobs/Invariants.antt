use Rattle.std.proofs.Common.{◌≡◌}
use Rattle.std.specs.List.{flat_map}
use Rattle.mt_sched.specs.Plans.{ready_at}
use Rattle.mt_sched.specs.Plan.{first_but}
use Rattle.mt_sched.proofs.sched.first_of_jobs.Given as goal

abbrev pub invariant-loop-job : goal.invariant-loop-job
invariant-loop-job l = first_but l.skip (flat_map (ready_at l.queues.entries) l.job-iterator) ≡ first_but l.skip (flat_map (ready_at l.queues.entries) l.jobs.keys)
