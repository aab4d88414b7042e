use Rattle.mt_certline.proofs.LinesAgain.{lines-again, texts-lines}
use Rattle.mt_certline.proofs.laws.lines_read_again.Goals as goal

pub returns-clause-again : goal.returns-clause-again
returns-clause-again c = lines-again

pub returns-clause-line : goal.returns-clause-line
returns-clause-line c = texts-lines
