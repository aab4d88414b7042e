use Rattle.std.proofs.Common.{ap}
use Rattle.json.specs.Print.{quoted}
use Rattle.mt_jobtext.specs.StatusPieces.{status_front}
use Rattle.mt_jobtext.proofs.Windows.{puts_more, puts_same}
use Rattle.mt_jobtext.proofs.status.put_front.Goals as goal

pub returns : goal.returns
unfolding status_front
returns g c =
    puts_more c.put.ensures (puts_more c.put_flag.ensures (puts_more c.put-2.ensures (puts_more (puts_same c.put_quoted.ensures (ap quoted c.uuid_text.ensures.text)) (puts_more c.put-3.ensures
    (puts_more c.put_flag-2.ensures c.put-4.ensures)))))
