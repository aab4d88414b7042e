use Rattle.mt_opening.proofs.Histories.{none_foreign}
use Rattle.mt_opening.proofs.laws.foreign_has_no_history.Goals as goal

pub returns : goal.returns
returns c = none_foreign
