use Rattle.mt_answer.specs.Judging.{len_of}
use Rattle.mt_answer.proofs.Allowed.{done_allowed}
use Rattle.mt_answer.proofs.laws.done_is_allowed.Goals as goal

pub returns : goal.returns
returns c = done_allowed len_of
