use Rattle.std.proofs.Common.{◌≡◌, drop}
use Rattle.std.specs.List.{flat_map}
use Rattle.mt_sched.specs.Plan.{first_but, ready_in, ready_of_phase}
use Rattle.mt_sched.proofs.queue.Queue.first.Given as goal

abbrev pub invariant-loop-queue : goal.invariant-loop-queue
invariant-loop-queue l =
    first_but l.skip (flat_map (ready_of_phase l.job l.self) (drop l.queue-index l.self.phases)) ≡ first_but l.skip (ready_in l.job l.self)
