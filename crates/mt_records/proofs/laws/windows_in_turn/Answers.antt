use Rattle.mt_records.proofs.Seen.{none_seen, windows_in_turn}
use Rattle.mt_records.proofs.laws.windows_in_turn.Goals as goal

pub returns-clause-none : goal.returns-clause-none
returns-clause-none c = none_seen

pub returns-clause-more : goal.returns-clause-more
returns-clause-more c = windows_in_turn
