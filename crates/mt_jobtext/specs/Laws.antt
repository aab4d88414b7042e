-- What holds of the texts of jobs, and of which jobs.
use Rattle.std.specs.Prelude.{◌≡◌, ℕ, ◌≤◌, List}
use Rattle.mt_types.specs.Values.{job_with}
use Rattle.mt_types.specs.declared.body.Body.{Body}
use Rattle.mt_types.specs.declared.job.Job.{Job}
use Rattle.mt_types.specs.declared.limits.TheConstants.{MOST_COMMANDS}
use Rattle.mt_model.specs.Honest.{OfFound}
use Rattle.mt_model.specs.Keeping.{KeepsLimits}
use Rattle.mt_model.specs.Lawful.{Lawful}
use Rattle.mt_model.specs.State.{State, job_at}
use Rattle.mt_jobtext.specs.JobTexts.{archive_of, line_count, text_of}
use Rattle.mt_jobtext.specs.Pieces.{IsShowable}
use Rattle.mt_types.specs.declared.live.LiveText.{LiveText}

-- whatever is read for bodies, a job over these bytes has the text of the job itself, with as many lines
pub record IsOfNoBody (read : Body → List ℕ) (login : List ℕ) (job : Job Body) (text : LiveText) : Type 0 where
  pub same : text_of login (job_with read job) text ≡ text_of login job text
  pub lines : line_count login (job_with read job) text ≡ line_count login job text

-- each text does not look at bodies
abbrev pub TextsOfNoBody : Type 0
TextsOfNoBody = (read : Body → List ℕ) (login : List ℕ) (job : Job Body) (text : LiveText) → IsOfNoBody read login job text

-- nor does an archive
abbrev pub ArchivesOfNoBody : Type 0
ArchivesOfNoBody = (read : Body → List ℕ) (login : List ℕ) (job : Job Body) → archive_of login (job_with read job) ≡ archive_of login job

-- each job of a lawful state within its limits has texts
abbrev pub JobsAreShowable : Type 0
JobsAreShowable = (s : State Body) (number : ℕ) → Lawful s → KeepsLimits s → s.count ≤ MOST_COMMANDS → OfFound IsShowable (job_at s.jobs number)
