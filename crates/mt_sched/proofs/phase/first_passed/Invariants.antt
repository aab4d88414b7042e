use Rattle.std.proofs.Common.{◌≡◌, not}
use Rattle.std.specs.List.{find}
use Rattle.mt_sched.specs.Plan.{has_task, task_at}
use Rattle.mt_sched.proofs.phase.first_passed.Given as goal

abbrev pub invariant-loop-place : goal.invariant-loop-place
invariant-loop-place l =
    find (λ k. not (has_task l.skip (task_at l.job l.phase k))) l.place-iterator ≡ find (λ k. not (has_task l.skip (task_at l.job l.phase k))) l.passed.keys
