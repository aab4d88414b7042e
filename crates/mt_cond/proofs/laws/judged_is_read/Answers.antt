use Rattle.mt_cond.proofs.JudgedRead.{judged-with}
use Rattle.mt_cond.proofs.laws.judged_is_read.Goals as goal

pub returns : goal.returns
returns c = judged-with
