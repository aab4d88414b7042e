use Rattle.std.proofs.Common.{◌≡◌, ◌++◌, drop, map}
use Rattle.std.specs.List.{filter_map}
use Rattle.mt_model.specs.State.{job_at}
use Rattle.mt_jobs.proofs.jobs.Jobs.page.Given as goal

abbrev pub invariant-loop-number : goal.invariant-loop-number
invariant-loop-number g l =
    map (λ j. j.now) l.page.items ++ filter_map (job_at l.self) (drop l.number-index l.number-items) ≡ filter_map (job_at l.self) l.number-items
