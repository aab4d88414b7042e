use Rattle.mt_codec.proofs.Sizes.{command_size}
use Rattle.mt_codec.proofs.laws.sizes.Goals as goal

pub returns : goal.returns
returns c = command_size
