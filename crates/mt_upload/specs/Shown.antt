-- The rows and the uploads of an account as one state.
use Rattle.std.specs.Prelude.{ℕ, List, [], Option, Some, None}
use Rattle.mt_types.specs.declared.upload.PartRow.{PartRow}
use Rattle.mt_types.specs.declared.upload.Upload.{Upload}
use Rattle.mt_model.specs.Rows.{Rows}
use Rattle.mt_model.specs.State.{State}

module _ {B : Type 0} where
  -- the state after so many commands, without jobs
  abbrev pub state_of : ℕ → Rows B → List (Upload B) → State B
  state_of count rows uploads = record { count = count; rows = rows; jobs = []; uploads = uploads }

  -- the parts of an upload; none where there is no upload
  abbrev pub parts_of : Option (Upload B) → List (PartRow B)
  parts_of None = []
  parts_of (Some u) = u.parts
