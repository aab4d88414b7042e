use Rattle.mt_request.proofs.Limits.{asked_within}
use Rattle.mt_request.proofs.laws.asked_within_limits.Goals as goal

pub returns : goal.returns
returns c = asked_within
