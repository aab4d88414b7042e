use Rattle.std.proofs.Common.{◌++◌, take, drop, arith, length-append}
use Rattle.std.proofs.lemmas.List.{length-take-le}
use Rattle.mt_edge.proofs.Streams.{got_more, left_after}
use Rattle.mt_response.proofs.Bodies.{front_behind}
use Rattle.mt_response.proofs.body.copy_body.Goals as goal

pub loop-done-preserved : goal.loop-done-preserved
loop-done-preserved g c =
    let i = c.loop-done.invariant in
    let took = c.in-Took.ensures.reads in
    let into = c.read.new.into in
    let piece = take c.in-Took.count into in
    let size = length-take-le c.in-Took.count into took.1 in
    let part = length-take-le c.min-room.result c.loop-done.buffer (omega (arith, c.min-room.ensures)) in
    record {
      body = i.body ++ piece;
      size = omega (arith, i.size, length-append i.body piece, size);
      within = omega (arith, took.1, c.read.auto.into, part, c.min-room.ensures, c.loop-done-test.true);
      room = omega (arith, length-append into (drop c.min-room.result c.loop-done.buffer), took.0, took.1);
      moved = record {
        gone = left_after _ i.body _ piece _ i.moved.gone took.2;
        came = got_more _ i.body _ piece _ i.moved.came c.in-Ok.ensures.writes.0;
      };
      stays = g.met.L.Source.source_joined _ _ _ i.stays c.in-Took.ensures.stays;
      sink_stays = g.met.K.Sink.sink_joined _ _ _ i.sink_stays c.in-Ok.ensures.stays;
      reads = omega (arith, i.reads, took.3);
      writes = omega (arith, i.writes, c.in-Ok.ensures.writes.1);
    }

pub returns-in-Err-clause-copies : goal.returns-in-Err-clause-copies
returns-in-Err-clause-copies g c =
    let i = c.loop-done.invariant in
    let took = c.in-Took.ensures.reads in
    let into = c.read.new.into in
    let piece = take c.in-Took.count into in
    let size = length-take-le c.in-Took.count into took.1 in
    let part = length-take-le c.min-room.result c.loop-done.buffer (omega (arith, c.min-room.ensures)) in (
      (
        i.body ++ piece,
        omega (arith, i.size, length-append i.body piece, size, took.1, c.read.auto.into, part, c.min-room.ensures, c.loop-done-test.true),
        left_after _ i.body _ piece _ i.moved.gone took.2,
        front_behind _ i.body _ piece _ i.moved.came c.in-Err.ensures.writes.0,
      ),
      omega (arith, i.reads, took.3),
      omega (arith, i.writes, c.in-Err.ensures.writes.1),
    )
