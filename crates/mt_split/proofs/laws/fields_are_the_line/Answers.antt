use Rattle.mt_split.proofs.Whole.{fields-joined, fields-cut}
use Rattle.mt_split.proofs.laws.fields_are_the_line.Goals as goal

pub returns : goal.returns
returns c = record { whole = fields-joined; cut = fields-cut }
