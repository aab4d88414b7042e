use Rattle.mt_answer.proofs.AnswersRead.{answer_read, full_read, refused_read}
use Rattle.mt_answer.proofs.laws.answers_are_read.Goals as goal

pub returns : goal.returns
returns c = record { answer = answer_read; refused = refused_read; full = full_read }
