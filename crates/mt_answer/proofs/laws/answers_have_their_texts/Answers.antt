use Rattle.mt_answer.proofs.Texts.{answers_have_texts}
use Rattle.mt_answer.proofs.laws.answers_have_their_texts.Goals as goal

pub returns : goal.returns
returns c = answers_have_texts
