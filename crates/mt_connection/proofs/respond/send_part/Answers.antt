-- What was sent of the head, or of the body behind it.
use Rattle.std.proofs.Common.{refl, arith}
use Rattle.mt_connection.proofs.Sending.{front_of_more, some_bytes}
use Rattle.mt_connection.proofs.respond.send_part.Goals as goal

pub returns-in-Err-clause-sends : goal.returns-in-Err-clause-sends
returns-in-Err-clause-sends g c =
    let b = some_bytes (g.D.Disk.seen c.args.disk.now) c.args.body.now c.args.from c.args.to c.requires.part.0 c.requires.part.1 in
    (b.0, b.1, (refl, omega arith, omega arith))

pub returns-in-Err-SinkFault-clause-sends : goal.returns-in-Err-SinkFault-clause-sends
returns-in-Err-SinkFault-clause-sends g c =
    let b = some_bytes (g.D.Disk.seen c.args.disk.now) c.args.body.now c.args.from c.args.to c.requires.part.0 c.requires.part.1 in
    let w = (rw c.in-Err-SinkFault.field-0-is at c.in-Err-SinkFault.ensures).writes in
    (b.0, b.1, (front_of_more _ _ b.0 _ w.0, w.1, omega arith))

pub returns-clause-sends : goal.returns-clause-sends
returns-clause-sends g c =
    let b = some_bytes (g.D.Disk.seen c.args.disk.now) c.args.body.now c.args.from c.args.to c.requires.part.0 c.requires.part.1 in
    let w = (rw c.in-Err-Memory.field-0-is at c.in-Err-Memory.ensures).writes in
    (b.0, b.1, (w.0, w.1, omega arith))
