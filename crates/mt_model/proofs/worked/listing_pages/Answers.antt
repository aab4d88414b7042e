use Rattle.std.proofs.Common.{refl}
use Rattle.mt_model.specs.CommandStep.{allowed, change, replay, step}
use Rattle.mt_model.proofs.worked.listing_pages.Goals as goal

pub returns : goal.returns
unfolding allowed change replay step
returns c = record { size = refl; first = refl; from_b = refl; between = refl; children = refl; numbers = refl }
