-- What an account keeps of its parts, and what is left of one that is lost.
use Rattle.std.specs.Prelude.{◌≡◌, ℕ, ◌<◌, ◌≤◌, List, []}
use Rattle.mt_types.specs.declared.body.Body.{Body}
use Rattle.mt_types.specs.declared.job.Job.{Job}
use Rattle.mt_types.specs.declared.limits.TheConstants.{MOST_COMMANDS}
use Rattle.mt_types.specs.declared.object.Object.{Object}
use Rattle.mt_model.specs.Keeping.{KeepsLimits}
use Rattle.mt_model.specs.Lawful.{Lawful}
use Rattle.mt_model.specs.Rows.{Rows, first_rows}
use Rattle.mt_model.specs.State.{State}
use Rattle.mt_jobs.specs.Shown.{state_of}
use Rattle.mt_snapshot.specs.Listing.{IsListable}

-- the state is lawful and within its limits, and can be listed record by record; and as long as it takes commands, the spare rows are those of an
-- empty account
pub record Keeps (count : ℕ) (rows : Rows Body) (jobs : List (Job Body)) (spare : Rows Body) : Type 0 where
  pub most : count ≤ MOST_COMMANDS
  pub lawful : Lawful (state_of count rows jobs)
  pub limits : KeepsLimits (state_of count rows jobs)
  pub listable : IsListable (state_of count rows jobs)
  pub in_reserve : count < MOST_COMMANDS → spare ≡ first_rows

-- what is left where memory was wanting amid a change: nothing, and no room for a command
abbrev pub lost_account : State Body
lost_account = state_of MOST_COMMANDS first_rows []

-- an object with another moment
abbrev pub moved_to : {B : Type 0} → ℕ → Object B → Object B
moved_to moment object = record object { mtime = moment }
