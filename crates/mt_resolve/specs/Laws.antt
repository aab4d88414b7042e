-- The law that records are ready.
use Rattle.std.specs.Prelude.{◌≡◌, ℕ, ◌<◌, List, Some, None}
use Rattle.mt_types.specs.WellMade.{IsWellMadeFate}
use Rattle.mt_types.specs.declared.job.Job.{Job}
use Rattle.mt_types.specs.declared.limits.TheConstants.{MOST_COMMANDS}
use Rattle.mt_types.specs.declared.task.Fate.{Fate}
use Rattle.mt_model.specs.JobSteps.{commit_refusal}
use Rattle.mt_model.specs.Lawful.{LawfulJobs, LawfulRows}
use Rattle.mt_model.specs.Rows.{Rows}
use Rattle.mt_model.specs.State.{job_at}
use Rattle.mt_resolve.specs.Committing.{IsCommitting, committing_of}
use Rattle.mt_resolve.specs.Taking.{HasReady}

-- in a lawful state, where the commit of a task is not refused and its fate is well made, the task can be committed with it
abbrev pub CommitsAreReady : Type 0 → Type 0
CommitsAreReady B = (count : ℕ) (rows : Rows B) (jobs : List (Job B)) → count < MOST_COMMANDS → LawfulRows count rows → LawfulJobs count rows jobs
    → (number : ℕ) (job : Job B) → job_at jobs number ≡ Some job → (phase place : ℕ) → commit_refusal phase place job ≡ None
    → (moment : ℕ) (fate : Fate B) → IsWellMadeFate fate
    → IsCommitting (committing_of job phase place count moment) × HasReady (committing_of job phase place count moment) rows fate
