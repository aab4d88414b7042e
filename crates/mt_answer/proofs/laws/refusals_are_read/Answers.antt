use Rattle.mt_answer.proofs.AnswersRead.{refusals_read, storing_read}
use Rattle.mt_answer.proofs.laws.refusals_are_read.Goals as goal

pub returns : goal.returns
returns c = record { refusal = refusals_read; storing = storing_read }
