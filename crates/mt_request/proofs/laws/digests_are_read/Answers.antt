use Rattle.mt_request.proofs.Digests.{digest_read-exact}
use Rattle.mt_request.proofs.laws.digests_are_read.Goals as goal

pub returns : goal.returns
returns c = digest_read-exact
