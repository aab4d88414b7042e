use Rattle.std.proofs.Common.{rules}
use Rattle.mt_split.specs.Partition.{reducer_of}
use Rattle.mt_split.proofs.routing.route.Goals as goal

pub returns-clause-value : goal.returns-clause-value
unfolding reducer_of
returns-clause-value c = search rules
