use Rattle.mt_answer.proofs.Whole.{one_command}
use Rattle.mt_answer.proofs.laws.answers_add_one.Goals as goal

pub returns : goal.returns
returns c = one_command
