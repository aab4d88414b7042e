use Rattle.std.proofs.Common.{refl}
use Rattle.mt_model.specs.CommandStep.{allowed, change, replay, step}
use Rattle.mt_model.proofs.worked.delete_directory.Goals as goal

pub returns : goal.returns
unfolding allowed change replay step
returns c = record { full = refl; empty = refl; gone = refl; missing = refl; root = refl }
