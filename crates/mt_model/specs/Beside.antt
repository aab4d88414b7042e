-- Uploads stand beside rows and jobs: no command on one looks at the other, or changes it.
use Rattle.std.specs.Prelude.{◌≡◌, List, ℕ}
use Rattle.mt_model.specs.Types.{Command, Job, Upload}
use Rattle.mt_model.specs.CommandStep.{allowed, change}
use Rattle.mt_model.specs.State.{State}

module _ {B : Type 0} where
  -- the state with other uploads
  abbrev pub with_uploads : List (Upload B) → State B → State B
  with_uploads us s = record s { uploads = us }

  -- or with other jobs
  abbrev pub with_jobs : List (Job B) → State B → State B
  with_jobs js s = record s { jobs = js }

  -- a command is refused alike, and changes alike, whatever the uploads are
  pub record IsBesideUploads (size : B → ℕ) (c : Command B) : Type 0 where
    pub refused : (s : State B) (us : List (Upload B)) → allowed size (with_uploads us s) c ≡ allowed size s c
    pub changed : (s : State B) (us : List (Upload B)) → change (with_uploads us s) c ≡ with_uploads us (change s c)

  -- and whatever the jobs are
  pub record IsBesideJobs (size : B → ℕ) (c : Command B) : Type 0 where
    pub refused : (s : State B) (js : List (Job B)) → allowed size (with_jobs js s) c ≡ allowed size s c
    pub changed : (s : State B) (js : List (Job B)) → change (with_jobs js s) c ≡ with_jobs js (change s c)
