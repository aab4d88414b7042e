use Rattle.mt_connection.proofs.Completeness.{one_outcome}
use Rattle.mt_connection.proofs.laws.outcome_is_one.Goals as goal

pub returns : goal.returns
returns c = one_outcome
