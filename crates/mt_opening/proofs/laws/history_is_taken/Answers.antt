use Rattle.mt_opening.proofs.Taking.{history_lawful, history_taken}
use Rattle.mt_opening.proofs.laws.history_is_taken.Goals as goal

pub returns-clause-taken : goal.returns-clause-taken
returns-clause-taken c = history_taken

pub returns-clause-lawful : goal.returns-clause-lawful
returns-clause-lawful c = history_lawful
