use Rattle.std.proofs.Common.{◌≡◌, drop}
use Rattle.std.specs.List.{list_all}
use Rattle.mt_sched.specs.PlanSteps.{is_complete_after}
use Rattle.mt_sched.proofs.queue.are_complete_after.Given as goal

abbrev pub invariant-loop-queue : goal.invariant-loop-queue
invariant-loop-queue l = list_all (is_complete_after l.phase l.place) (drop l.queue-index l.queues) ≡ list_all (is_complete_after l.phase l.place) l.queues
