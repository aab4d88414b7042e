use Rattle.mt_path.proofs.Below.{parent_of-child, IsUnder-child}
use Rattle.mt_path.proofs.laws.child_is_below.Goals as goal

pub returns : goal.returns
returns c = record { parent = parent_of-child; under = IsUnder-child }
