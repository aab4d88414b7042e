use Rattle.std.proofs.Common.{ap, sym}
use Rattle.mt_jobtext.specs.Members.{reducer_text}
use Rattle.mt_jobtext.proofs.Windows.{puts_more, puts_same}
use Rattle.mt_jobtext.proofs.errors.put_reducer.Goals as goal

pub returns-in-Some : goal.returns-in-Some
returns-in-Some c = puts_same (puts_more c.put.ensures c.put_number.ensures) (ap reducer_text (sym c.in-Some.is))
