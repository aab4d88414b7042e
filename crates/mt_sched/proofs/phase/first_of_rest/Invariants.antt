use Rattle.std.proofs.Common.{◌≡◌, ◌-◌, not}
use Rattle.std.specs.List.{find, range_with_len}
use Rattle.mt_sched.specs.Plan.{has_task, task_at}
use Rattle.mt_sched.proofs.phase.first_of_rest.Given as goal

abbrev pub invariant-loop-place : goal.invariant-loop-place
invariant-loop-place l =
    find (λ k. not (has_task l.skip (task_at l.job l.phase k))) (range_with_len l.place (l.places - l.place)) ≡ find (λ k. not (has_task l.skip (task_at l.job l.phase k))) (range_with_len l.rest (l.places - l.rest))
