use Rattle.std.proofs.Common.{length}
use Rattle.mt_types.proofs.texts.+is_metadata_within.Given as goal

abbrev pub decreases-is_metadata_within : goal.decreases-is_metadata_within
decreases-is_metadata_within l = length l.fields.now
