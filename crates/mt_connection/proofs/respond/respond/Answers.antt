-- A reply that was loaded, and one that could not be.
use Rattle.mt_opening.proofs.Looks.{there_on}
use Rattle.mt_http.specs.Options as options
use Rattle.mt_connection.proofs.Sending.{some_body, unread}
use Rattle.mt_connection.proofs.respond.respond.Goals as goal

pub send-requires-in-Ok-clause-ready : goal.send-requires-in-Ok-clause-ready
send-requires-in-Ok-clause-ready g c = record {
  there = there_on g.D.Disk.seen c.args.disk.now c.loaded.new.disk c.args.engine.now.log c.loaded.ensures.reads.read.seen_same c.requires.ready.there;
  is_open = c.requires.ready.is_open;
}

pub returns-in-Err-clause-sends : goal.returns-in-Err-clause-sends
returns-in-Err-clause-sends g c =
    let b = some_body (g.D.Disk.seen c.args.disk.now) c.args.reply.body c.requires.shown in
    (b.0, b.1, unread (options.closes c.args.head.now.minor c.args.head.now.fields) c.args.reply b.0 c.args.head.now c.in-Err.end (g.K.Sink.got c.args.sink.now) (g.K.Sink.write_faults c.args.sink.now) (g.D.Disk.faults c.args.disk.now) (g.D.Disk.faults c.loaded.new.disk) c.in-Err.ensures.reads.faults c.in-Err.ensures.ends)
