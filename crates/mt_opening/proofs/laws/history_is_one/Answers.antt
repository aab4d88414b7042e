use Rattle.mt_opening.proofs.Histories.{one_history}
use Rattle.mt_opening.proofs.laws.history_is_one.Goals as goal

pub returns : goal.returns
returns c = one_history
