use Rattle.std.proofs.Common.{ap, sym}
use Rattle.mt_jobtext.specs.Members.{count_text}
use Rattle.mt_jobtext.proofs.Windows.{puts_more, puts_same}
use Rattle.mt_jobtext.proofs.phases.put_count.Goals as goal

pub returns-in-Reduce : goal.returns-in-Reduce
returns-in-Reduce c = puts_same (puts_more c.put.ensures c.put_number.ensures) (ap count_text (sym c.in-Reduce.is))
