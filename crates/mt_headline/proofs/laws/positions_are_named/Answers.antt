use Rattle.mt_headline.proofs.Position.{positions_are_named}
use Rattle.mt_headline.proofs.laws.positions_are_named.Goals as goal

pub returns : goal.returns
returns c = positions_are_named
