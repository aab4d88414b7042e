-- Of any function of ranges, and of what was read record by record.
use Rattle.mt_records.proofs.Over.{fate_of_stored}
use Rattle.mt_records.proofs.Whole.{fates_of_any_bytes}
use Rattle.mt_records.proofs.laws.fates_are_honest.Goals as goal

pub returns-clause-any : goal.returns-clause-any
returns-clause-any c = λ j ws stored has none are fits. fates_of_any_bytes stored fits j ws has none are

pub returns-clause-stored : goal.returns-clause-stored
returns-clause-stored c = fate_of_stored
