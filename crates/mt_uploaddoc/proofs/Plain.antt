-- No number of how an upload stands is a float.
use Rattle.std.proofs.Common.{◌≡◌, ℕ, List, refl, false}
use Rattle.serde_json.specs.Written.{has_float}
use Rattle.mt_types.specs.declared.upload.Upload.{Upload}
use Rattle.mt_uploaddoc.specs.States.{state_data}

pub state_plain : {B : Type 0} (login : List ℕ) (u : Upload B) → has_float (state_data login u) ≡ false
unfolding state_data
state_plain login u = refl
