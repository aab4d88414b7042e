use Rattle.mt_opening.proofs.Histories.{history_more, history_pieces}
use Rattle.mt_opening.proofs.laws.history_goes_on.Goals as goal

pub returns-clause-more : goal.returns-clause-more
returns-clause-more c = history_more

pub returns-clause-pieces : goal.returns-clause-pieces
returns-clause-pieces c = history_pieces
