-- The jobs that run, and those that are done.
use Rattle.std.specs.Prelude.{ℕ, Bool, not, nat_le, List, take}
use Rattle.std.specs.List.{filter}
use Rattle.mt_types.specs.declared.job.Job.{Job}
use Rattle.mt_model.specs.Tasks.{is_running}
use Rattle.mt_types.specs.declared.live.JobStand.{JobStand}
use Rattle.mt_types.specs.declared.live.JobStand.TheVariants.{Running, Done}

module _ {B : Type 0} where
  -- the job stands so
  abbrev pub stands : JobStand → Job B → Bool
  stands Running job = is_running job
  stands Done job = not (is_running job)

  -- the jobs that stand so, in order
  abbrev pub standing : JobStand → List (Job B) → List (Job B)
  standing stand jobs = filter (stands stand) jobs

  -- at most `limit` of them, from the first whose number is not below
  abbrev pub page_of : JobStand → ℕ → ℕ → List (Job B) → List (Job B)
  page_of stand from limit jobs = take limit (filter (λ j. nat_le from j.number) (standing stand jobs))
