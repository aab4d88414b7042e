use Rattle.mt_codec.proofs.WellMade.{well_made}
use Rattle.mt_codec.proofs.laws.spelled_is_well_made.Goals as goal

pub returns : goal.returns
returns c = well_made
