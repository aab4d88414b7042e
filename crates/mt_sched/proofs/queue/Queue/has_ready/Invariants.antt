use Rattle.std.proofs.Common.{◌≡◌, drop}
use Rattle.std.specs.List.{list_any}
use Rattle.mt_sched.specs.Plan.{has_ready_in, has_ready_phase}
use Rattle.mt_sched.proofs.queue.Queue.has_ready.Given as goal

abbrev pub invariant-loop-queue : goal.invariant-loop-queue
invariant-loop-queue l = list_any (has_ready_phase l.self) (drop l.queue-index l.self.phases) ≡ has_ready_in l.self
