use Rattle.mt_snapshot.proofs.Sizes.{same_size}
use Rattle.mt_snapshot.proofs.laws.sizes_are_same.Goals as goal

pub returns : goal.returns
returns c = same_size
