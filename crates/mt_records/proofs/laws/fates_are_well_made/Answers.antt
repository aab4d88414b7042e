-- Over bytes, over ranges, and over what was read for them.
use Rattle.mt_records.proofs.Said.{over_is_said, over_is_well_made, ranged_is_said, ranged_is_well_made}
use Rattle.mt_records.proofs.WellMade.{fates_are_well_made}
use Rattle.mt_records.proofs.laws.fates_are_well_made.Goals as goal

pub returns-clause-bytes : goal.returns-clause-bytes
returns-clause-bytes c = fates_are_well_made

pub returns-clause-ranges : goal.returns-clause-ranges
returns-clause-ranges c = ranged_is_well_made

pub returns-clause-said : goal.returns-clause-said
returns-clause-said c = ranged_is_said

pub returns-clause-over : goal.returns-clause-over
returns-clause-over c = over_is_well_made

pub returns-clause-over_said : goal.returns-clause-over_said
returns-clause-over_said c = over_is_said
