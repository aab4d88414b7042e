use Rattle.mt_split.proofs.Whole.{lines-joined, lines-some, lines-cut}
use Rattle.mt_split.proofs.laws.lines_are_the_text.Goals as goal

pub returns : goal.returns
returns c = record { whole = lines-joined; each = lines-some; cut = lines-cut }
