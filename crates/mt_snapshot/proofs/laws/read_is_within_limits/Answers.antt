use Rattle.mt_snapshot.proofs.Weaker.{within_limits}
use Rattle.mt_snapshot.proofs.laws.read_is_within_limits.Goals as goal

pub returns : goal.returns
returns c = within_limits
