use Rattle.mt_jobtext.specs.JobTexts.{posted_text}
use Rattle.mt_jobtext.proofs.Texts.{missing_text}
use Rattle.mt_jobtext.proofs.Windows.{puts_more, puts_same}
use Rattle.mt_jobtext.proofs.errors.put_missing_line.Goals as goal

pub returns : goal.returns
returns c =
    puts_same
    (puts_more c.put.ensures (puts_more c.put_posted.ensures (puts_more c.put-2.ensures (puts_more c.put_number.ensures c.put-3.ensures))))
    (missing_text (posted_text c.args.login.now c.args.posted.now))
