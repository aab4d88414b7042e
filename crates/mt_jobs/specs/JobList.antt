-- What is kept of all jobs.
use Rattle.std.specs.Prelude.{◌≡◌, ℕ, ◌<◌, ◌^◌, ◌==◌, not, List, map, length, slice_get, All, IfSome, Option}
use Rattle.std.specs.List.{filter, find}
use Rattle.std.specs.List.Sorted.{IsStrictlySortedBy}
use Rattle.std.specs.Option.{option_and_then}
use Rattle.std.specs.Ordering.{nat_cmp}
use Rattle.mt_types.specs.declared.job.Job.{Job}
use Rattle.mt_model.specs.Tasks.{is_running}
use Rattle.mt_sched.specs.Plan.{Plan}
use Rattle.mt_sched.specs.PlanOfJob.{plans_of}
use Rattle.mt_feeds.specs.declared.kept.FedJob.{FedJob}
use Rattle.mt_feeds.specs.FedJob.{IsKept}

module _ {B : Type 0} where
  -- the jobs, without what is kept beside them
  abbrev pub jobs_in : List (FedJob B) → List (Job B)
  jobs_in kept = map (λ k. k.job) kept

  -- their numbers
  abbrev pub numbers_of : List (Job B) → List ℕ
  numbers_of jobs = map (λ j. j.number) jobs

  -- the numbers of those that run
  abbrev pub running_of : List (Job B) → List ℕ
  running_of jobs = numbers_of (filter is_running jobs)

  -- and of those that are done
  abbrev pub done_of : List (Job B) → List ℕ
  done_of jobs = numbers_of (filter (λ j. not (is_running j)) jobs)

  -- the numbers rise; each job has what is kept of it; the queues are those of the jobs that run; the two sets have the numbers of
  -- those that run and of those that are done
  pub record IsJobs (kept : List (FedJob B)) (plans : List (ℕ × Plan)) (running done : List ℕ) : Type 0 where
    pub rising : IsStrictlySortedBy nat_cmp (numbers_of (jobs_in kept))
    pub small : All (λ k. k.job.number < 2 ^ 62) kept
    pub each : All IsKept kept
    pub plans_are : plans ≡ plans_of (jobs_in kept)
    pub running_are : running ≡ running_of (jobs_in kept)
    pub done_are : done ≡ done_of (jobs_in kept)

  -- where the job of a number stands, if there is one
  pub record IsFound (number : ℕ) (kept : List (FedJob B)) (found : Option ℕ) : Type 0 where
    pub there : option_and_then (slice_get kept) found ≡ find (λ k. k.job.number == number) kept
    pub within : IfSome found (λ k. k < length kept)
