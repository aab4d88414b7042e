use Rattle.mt_jobtext.proofs.Windows.{puts_more}
use Rattle.mt_jobtext.proofs.status.put_stats.Goals as goal

pub returns : goal.returns
returns c =
    puts_more c.put.ensures (puts_more c.put_number.ensures (puts_more c.put-2.ensures (puts_more c.put_number-2.ensures (puts_more c.put-3.ensures
    (puts_more c.put_number-3.ensures (puts_more c.put-4.ensures (puts_more c.put_number-4.ensures c.put-5.ensures)))))))
