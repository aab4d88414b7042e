use Rattle.mt_codec.proofs.Weaker.{within_limits}
use Rattle.mt_codec.proofs.laws.decoded_again.Goals as goal

pub encode-requires : goal.encode-requires
encode-requires c = within_limits c.args.command.now c.requires
