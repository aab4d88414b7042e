use Rattle.mt_jobtext.proofs.Windows.{puts_more}
use Rattle.mt_jobtext.proofs.phases.put_asset.Goals as goal

pub returns : goal.returns
returns c =
    puts_more c.put.ensures (puts_more c.put_path.ensures c.put-2.ensures)
