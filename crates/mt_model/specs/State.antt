-- The state of an account, whatever a body is.
use Rattle.std.specs.Prelude.{ℕ, ◌==◌, List, [], map, Option, if◌then◌else◌}
use Rattle.std.specs.List.{find}
use Rattle.mt_model.specs.Types.{Job, Upload}
use Rattle.mt_model.specs.Rows.{Rows, first_rows}

-- what the commands so far have made
pub record State (B : Type 0) : Type 0 where
  -- the number of commands so far, which is the position in the log
  pub count : ℕ
  pub rows : Rows B
  -- in the order in which they were made
  pub jobs : List (Job B)
  pub uploads : List (Upload B)

module _ {B : Type 0} where
  -- no command yet
  abbrev pub first_state : State B
  first_state = record { count = 0; rows = first_rows; jobs = []; uploads = [] }

  -- the job of this number, if there is one
  abbrev pub job_at : List (Job B) → ℕ → Option (Job B)
  job_at jobs number = find (λ j. j.number == number) jobs

  -- the jobs, the one of this number changed
  abbrev pub with_job : List (Job B) → ℕ → (Job B → Job B) → List (Job B)
  with_job jobs number change = map (λ j. if j.number == number then change j else j) jobs

  -- the upload of this number, if there is one
  abbrev pub upload_at : List (Upload B) → ℕ → Option (Upload B)
  upload_at uploads number = find (λ u. u.number == number) uploads

  -- the uploads, the one of this number changed
  abbrev pub with_upload : List (Upload B) → ℕ → (Upload B → Upload B) → List (Upload B)
  with_upload uploads number change = map (λ u. if u.number == number then change u else u) uploads
