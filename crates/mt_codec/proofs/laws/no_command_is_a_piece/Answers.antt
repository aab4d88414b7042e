use Rattle.mt_codec.proofs.Weaker.{no_piece}
use Rattle.mt_codec.proofs.laws.no_command_is_a_piece.Goals as goal

pub returns : goal.returns
returns c = no_piece
