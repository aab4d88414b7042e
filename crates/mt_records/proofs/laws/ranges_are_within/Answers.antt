use Rattle.mt_records.proofs.Within.{ranges_are_within}
use Rattle.mt_records.proofs.laws.ranges_are_within.Goals as goal

pub returns : goal.returns
returns c = ranges_are_within
