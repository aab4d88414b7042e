use Rattle.std.proofs.Common.{length, ap, arith}
use Rattle.mt_jobtext.proofs.Numbered.{pieces_count}
use Rattle.mt_jobtext.proofs.whole.piece_count.Goals as goal

pub returns : goal.returns
returns g c = omega (arith, pieces_count c.args.shown.now, c.first_count.ensures, c.in_ok-count.ensures, ap length c.tasks-tasks.ensures)
