use Rattle.std.proofs.Common.{length}
use Rattle.mt_types.proofs.texts.+are_by_name.Given as goal

abbrev pub decreases-are_by_name : goal.decreases-are_by_name
decreases-are_by_name l = length l.fields.now
