use Rattle.mt_answer.specs.Judging.{len_of}
use Rattle.mt_answer.proofs.Order.{still_refused}
use Rattle.mt_answer.proofs.laws.stays_refused.Goals as goal

pub returns : goal.returns
returns c = still_refused len_of
