-- What a task is run with and reads stays, as the history goes on.
use Rattle.std.specs.Prelude.{◌≡◌, ℕ, ◌<◌, true, List, [], length, Some, None}
use Rattle.std.specs.List.{slice_get}
use Rattle.mt_model.specs.Types.{Command, IsWellMade, Job, MOST_COMMANDS, Phase}
use Rattle.mt_model.specs.CommandStep.{allowed, step}
use Rattle.mt_model.specs.Feed.{feed}
use Rattle.mt_model.specs.Honest.{Bytes, itself}
use Rattle.mt_model.specs.Lawful.{Lawful}
use Rattle.mt_model.specs.State.{State, job_at}
use Rattle.mt_model.specs.Tasks.{input_of, is_running, is_task, ready, run_over, waits_finish}

-- a later value of a job has the same task in this phase, run with the same over the same bytes
pub record TaskStays (login : List ℕ) (job later : Job Bytes) (phase place : ℕ) (p : Phase) : Type 0 where
  pub has : slice_get later.document.phases phase ≡ Some p
  pub task : is_task later phase place ≡ true
  pub run : run_over itself login later phase place p (feed later phase) ≡ run_over itself login job phase place p (feed job phase)
  pub input : input_of itself p.kind (feed later phase) place ≡ input_of itself p.kind (feed job phase) place

-- each command leaves each task of each job so
abbrev pub TasksStay : Type 0
TasksStay = (s : State Bytes) (c : Command Bytes) → Lawful s → s.count < MOST_COMMANDS → IsWellMade c → allowed length s c ≡ None → (login : List ℕ) (number phase place : ℕ) (job : Job Bytes) (p : Phase)
    → job_at s.jobs number ≡ Some job → slice_get job.document.phases phase ≡ Some p → is_task job phase place ≡ true
    → (later : Job Bytes) × (job_at (step s c).jobs number ≡ Some later) × TaskStays login job later phase place p

-- a job that runs and whose input has ended waits to be finished, where none of its tasks is ready
abbrev pub EndedGoesOn : Type 0 → Type 0
EndedGoesOn B = (job : Job B) → is_running job ≡ true → job.ended ≡ true → ready job ≡ [] → waits_finish job ≡ true
