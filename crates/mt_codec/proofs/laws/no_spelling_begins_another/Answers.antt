use Rattle.mt_codec.proofs.Whole.{begins_alike}
use Rattle.mt_codec.proofs.laws.no_spelling_begins_another.Goals as goal

pub returns : goal.returns
returns c = begins_alike
