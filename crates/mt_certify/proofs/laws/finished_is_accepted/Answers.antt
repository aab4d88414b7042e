use Rattle.mt_certify.proofs.Read.{finished_accepted}
use Rattle.mt_certify.proofs.laws.finished_is_accepted.Goals as goal

pub returns : goal.returns
returns c = finished_accepted
