use Rattle.std.proofs.Common.{◌≡◌, map, take}
use Rattle.std.specs.List.{enumerate_from}
use Rattle.mt_sched.specs.PlanOfJob.{kinds_of}
use Rattle.mt_sched.specs.PlanSteps.{first_phase}
use Rattle.mt_sched.proofs.queue.Queue.of.Given as goal

abbrev pub invariant-loop-phase : goal.invariant-loop-phase
invariant-loop-phase l = record {
  queues : l.queues.items ≡ map first_phase (enumerate_from 0 (kinds_of (take l.phase-index l.phases)));
  number : l.number ≡ l.phase-index;
}
