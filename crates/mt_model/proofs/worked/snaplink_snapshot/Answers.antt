use Rattle.std.proofs.Common.{refl}
use Rattle.mt_model.specs.CommandStep.{allowed, change, replay, step}
use Rattle.mt_model.proofs.worked.snaplink_snapshot.Goals as goal

pub returns : goal.returns
unfolding allowed change replay step
returns c = record { body = refl; number = refl; no_source = refl; root_source = refl }
