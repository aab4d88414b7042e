use Rattle.std.proofs.Common.{arith}
use Rattle.mt_http.proofs.ReplyLines.{front_on}
use Rattle.mt_http.proofs.reply.write_both.Goals as goal

pub returns-in-Err-write_all : goal.returns-in-Err-write_all
returns-in-Err-write_all g c =
    let first = c.in-Ok.ensures in
    let second = c.in-Err-write_all.ensures in
    record {
      writes = (front_on _ c.args.text.now _ c.args.body.now _ first.writes.0 second.writes.0, omega (arith, first.writes.1, second.writes.1));
      stays = g.met.K.Sink.sink_joined _ _ _ first.stays second.stays;
    }
