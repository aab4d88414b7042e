-- The rows and the jobs of an account as one state.
use Rattle.std.specs.Prelude.{ℕ, List, []}
use Rattle.mt_types.specs.declared.job.Job.{Job}
use Rattle.mt_model.specs.Rows.{Rows}
use Rattle.mt_model.specs.State.{State}

-- the state after so many commands, without uploads
abbrev pub state_of : {B : Type 0} → ℕ → Rows B → List (Job B) → State B
state_of count rows jobs = record { count = count; rows = rows; jobs = jobs; uploads = [] }
