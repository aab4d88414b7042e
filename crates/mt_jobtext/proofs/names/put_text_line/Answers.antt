use Rattle.mt_jobtext.proofs.Windows.{puts_more}
use Rattle.mt_jobtext.proofs.names.put_text_line.Goals as goal

pub returns : goal.returns
returns c =
    puts_more c.put.ensures c.put-2.ensures
