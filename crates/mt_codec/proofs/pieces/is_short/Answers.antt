use Rattle.mt_codec.proofs.Paths.{short-by_key}
use Rattle.mt_codec.proofs.pieces.is_short.Goals as goal

pub returns : goal.returns
returns c = short-by_key c.args.area c.name.result.now c.args.key.now c.requires c.name.ensures
