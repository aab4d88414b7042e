-- What of an account's jobs is to be done next.
use Rattle.std.specs.Prelude.{ℕ, Bool, false, List, Option}
use Rattle.std.specs.List.{find, flat_map}
use Rattle.std.specs.Option.{option_map, option_map_or}
use Rattle.mt_types.specs.declared.job.Task.{Task}
use Rattle.mt_model.specs.State.{State, job_at}
use Rattle.mt_model.specs.Tasks.{is_ready, ready, waits_finish}

module _ {B : Type 0} where
  -- the ready tasks of all jobs, by job, phase and place
  abbrev pub ready_tasks : State B → List Task
  ready_tasks s = flat_map ready s.jobs

  -- the number of the first job that waits to be finished
  abbrev pub waiting : State B → Option ℕ
  waiting s = option_map (λ j. j.number) (find waits_finish s.jobs)

  -- a task is ready
  abbrev pub is_ready_in : State B → Task → Bool
  is_ready_in s t = option_map_or (λ j. is_ready j t.phase t.place) (job_at s.jobs t.job) false
