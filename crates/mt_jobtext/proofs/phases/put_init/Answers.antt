use Rattle.std.proofs.Common.{ap, sym}
use Rattle.json.specs.Print.{quoted}
use Rattle.mt_jobtext.specs.Members.{init_text}
use Rattle.mt_jobtext.proofs.Windows.{puts_more, puts_same}
use Rattle.mt_jobtext.proofs.phases.put_init.Goals as goal

pub returns-in-Some : goal.returns-in-Some
returns-in-Some c =
    puts_same (puts_more c.put.ensures (puts_same c.put_quoted.ensures (ap quoted c.as_bytes.ensures))) (ap init_text (sym c.in-Some.is))
