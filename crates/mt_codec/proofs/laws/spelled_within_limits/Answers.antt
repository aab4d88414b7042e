use Rattle.mt_codec.proofs.Weaker.{within_limits}
use Rattle.mt_codec.proofs.laws.spelled_within_limits.Goals as goal

pub returns : goal.returns
returns c = within_limits
