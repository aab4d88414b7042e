use Rattle.std.proofs.Common.{sym, ◌∙◌}
use Rattle.std.specs.List.{flat_map}
use Rattle.mt_sched.specs.Plans.{ready_at}
use Rattle.mt_sched.specs.Plan.{first_but}
use Rattle.mt_sched.proofs.Looks.{look_found, look_on}
use Rattle.mt_sched.proofs.sched.first_of_jobs.Goals as goal

pub returns-then-is_some : goal.returns-then-is_some
returns-then-is_some c =
    look_found c.args.queues.now.entries c.args.skip.now c.in-Some.job.now c.loop-job.job-iterator c.next.new.self c.first_of-found.result (first_but c.args.skip.now (flat_map (ready_at c.args.queues.now.entries) c.args.jobs.now.keys))
    c.in-Some.ensures.steps c.first_of-found.ensures (sym c.is_some.ensures ∙ c.if-is_some.true) c.loop-job.invariant

pub loop-job-preserved : goal.loop-job-preserved
loop-job-preserved c =
    look_on c.args.queues.now.entries c.args.skip.now c.in-Some.job.now c.loop-job.job-iterator c.next.new.self c.first_of-found.result (first_but c.args.skip.now (flat_map (ready_at c.args.queues.now.entries) c.args.jobs.now.keys))
    c.in-Some.ensures.steps c.first_of-found.ensures (sym c.is_some.ensures ∙ c.if-is_some.false) c.loop-job.invariant
