use Rattle.mt_helper.proofs.Streams.{write_failed}
use Rattle.mt_helper.proofs.streaming.pass.Goals as goal

pub returns-in-Err-clause-passes : goal.returns-in-Err-clause-passes
returns-in-Err-clause-passes g c = write_failed c.args.number c.args.copies c.args.piece.now _ _ _ c.in-Err.ensures.writes.0
