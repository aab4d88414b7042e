use Rattle.std.proofs.Common.{arith}
use Rattle.mt_edge.proofs.Streams.{got_more}
use Rattle.mt_response.proofs.Bodies.{front_behind}
use Rattle.mt_client.proofs.Asking.{front_of_both}
use Rattle.mt_client.proofs.exchange.send.Goals as goal

pub returns-in-Err-clause-writes : goal.returns-in-Err-clause-writes
returns-in-Err-clause-writes g c = (front_of_both _ c.args.head.now c.args.body.now _ c.in-Err.ensures.writes.0, c.in-Err.ensures.writes.1)

pub returns-in-Err-write_all-clause-writes : goal.returns-in-Err-write_all-clause-writes
returns-in-Err-write_all-clause-writes g c =
    let first = c.in-Ok.ensures.writes in
    let second = c.in-Err-write_all.ensures.writes in
    (front_behind _ c.args.head.now _ c.args.body.now _ first.0 second.0, omega (arith, first.1, second.1))

pub returns-in-Ok-write_all-clause-writes : goal.returns-in-Ok-write_all-clause-writes
returns-in-Ok-write_all-clause-writes g c =
    let first = c.in-Ok.ensures.writes in
    let second = c.in-Ok-write_all.ensures.writes in
    (got_more _ c.args.head.now _ c.args.body.now _ first.0 second.0, omega (arith, first.1, second.1))
