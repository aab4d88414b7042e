use Rattle.std.proofs.Common.{◌≡◌, drop}
use Rattle.std.specs.List.{list_all}
use Rattle.mt_sched.specs.Plan.{is_complete_phase}
use Rattle.mt_sched.proofs.queue.are_complete.Given as goal

abbrev pub invariant-loop-queue : goal.invariant-loop-queue
invariant-loop-queue l = list_all is_complete_phase (drop l.queue-index l.queues) ≡ list_all is_complete_phase l.queues
