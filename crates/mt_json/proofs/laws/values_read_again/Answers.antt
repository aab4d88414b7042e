use Rattle.mt_json.proofs.Kept.{lines-again, texts-lines, values-again}
use Rattle.mt_json.proofs.laws.values_read_again.Goals as goal

pub returns-clause-again : goal.returns-clause-again
returns-clause-again c = values-again

pub returns-clause-line : goal.returns-clause-line
returns-clause-line c = texts-lines

pub returns-clause-lines : goal.returns-clause-lines
returns-clause-lines c = lines-again
