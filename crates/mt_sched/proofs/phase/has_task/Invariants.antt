use Rattle.std.proofs.Common.{◌≡◌, drop}
use Rattle.std.specs.List.{list_any}
use Rattle.mt_sched.specs.Plan.{has_task, is_same_task}
use Rattle.mt_sched.proofs.phase.has_task.Given as goal

abbrev pub invariant-loop-other : goal.invariant-loop-other
invariant-loop-other l = list_any (is_same_task l.task) (drop l.other-index l.skip) ≡ has_task l.skip l.task
