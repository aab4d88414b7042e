use Rattle.mt_records.proofs.Records.{read_is_written, torn_is_torn, written_is_read}
use Rattle.mt_records.proofs.laws.records_are_read_again.Goals as goal

pub returns-clause-again : goal.returns-clause-again
returns-clause-again c = written_is_read

pub returns-clause-only : goal.returns-clause-only
returns-clause-only c = read_is_written

pub returns-clause-torn : goal.returns-clause-torn
returns-clause-torn c = torn_is_torn
