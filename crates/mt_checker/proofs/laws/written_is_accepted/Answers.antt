use Rattle.mt_checker.proofs.WrittenTexts.{written-accepted}
use Rattle.mt_checker.proofs.laws.written_is_accepted.Goals as goal

pub returns : goal.returns
returns c = written-accepted
