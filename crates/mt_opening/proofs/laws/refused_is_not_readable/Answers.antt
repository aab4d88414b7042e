use Rattle.mt_opening.proofs.Openings.{not_both}
use Rattle.mt_opening.proofs.laws.refused_is_not_readable.Goals as goal

pub returns : goal.returns
returns c = not_both
