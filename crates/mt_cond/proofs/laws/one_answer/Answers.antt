use Rattle.mt_cond.proofs.Answered.{ranged-one}
use Rattle.mt_cond.proofs.laws.one_answer.Goals as goal

pub returns : goal.returns
returns c = ranged-one
