use Rattle.std.proofs.Common.{refl}
use Rattle.mt_model.specs.CommandStep.{allowed, change, replay, step}
use Rattle.mt_model.proofs.worked.directory_refusals.Goals as goal

pub returns : goal.returns
unfolding allowed change replay step
returns c = record { missing_parent = refl; parent_object = refl; on_directory = refl; on_object = refl; again = refl; on_root = refl; fits = refl }
