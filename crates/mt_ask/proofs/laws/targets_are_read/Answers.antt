use Rattle.mt_ask.proofs.Targets.{queried_target_read, target_read}
use Rattle.mt_ask.proofs.laws.targets_are_read.Goals as goal

pub returns-clause-alone : goal.returns-clause-alone
returns-clause-alone c = target_read

pub returns-clause-before_a_query : goal.returns-clause-before_a_query
returns-clause-before_a_query c = queried_target_read
