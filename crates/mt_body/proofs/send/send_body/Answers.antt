use Rattle.std.proofs.Common.{◌≡◌, ◌≤◌, ◌+◌, ◌-◌, ◌∙◌, ◌++◌, [], length, take, drop, ap, sym, arith, length-append, length-drop}
use Rattle.std.proofs.lemmas.List.{length-take-le, take-append-le}
use Rattle.mt_disk.proofs.Readings.{reads_none, reads_on}
use Rattle.mt_edge.proofs.Streams.{got_more, got_nothing}
use Rattle.mt_log.specs.LogState.{told}
use Rattle.mt_body.specs.Stored.{bytes_of}
use Rattle.mt_body.proofs.Sendings.{all_sent, front_is, sent_more, wrote_front}
use Rattle.mt_body.proofs.send.send_body.Goals as goal

pub loop-at-init : goal.loop-at-init
loop-at-init g c =
    let d = g.D.Disk in
    let from = c.args.from in
    let none : from - from ≡ 0 = omega arith in
    record {
      order = omega arith;
      within = c.requires.part.0;
      size = omega arith;
      bytes = [];
      count = omega arith;
      got = got_nothing _;
      are = λ ps is. sym (ap (λ n. take n (drop from (bytes_of ps c.args.body.now))) none);
      read = reads_none d.seen d.may_leave d.moment d.left_since c.args.disk.now;
      faults = omega arith;
      writes = omega arith;
      stays = g.met.K.Sink.sink_same _;
    }

pub returns-in-Err-clause-sent : goal.returns-in-Err-clause-sent
returns-in-Err-clause-sent g c =
    let i = c.loop-at.invariant in
    let r = all_sent (told (g.D.Disk.seen c.args.disk.now)) i.bytes c.args.from c.loop-at.at c.args.to c.args.body.now i.order i.within c.requires.part.1 i.count i.are in
    (r.bytes, r.size, (wrote_front _ _ i.bytes r.bytes r.front (omega (arith, r.size, i.count, c.loop-at-test.true, i.order)) i.got, i.writes), r.told_is)

pub loop-at-preserved : goal.loop-at-preserved
loop-at-preserved g c =
    let d = g.D.Disk in
    let i = c.loop-at.invariant in
    let buffer = c.loop-at.buffer in
    let wanted = c.min-wanted.result in
    let count = c.in-Ok.count in
    let read = c.read_some.new.into in
    let more = take count (read ++ drop wanted buffer) in
    let few = c.in-Ok.ensures.count in
    let part = length-take-le wanted buffer (omega (arith, c.min-wanted.ensures)) in
    let same = c.read_some.auto.into in
    let is_more = take-append-le count read (drop wanted buffer) few.1 in
    let size = length-append read (drop wanted buffer) in
    record {
      order = omega (arith, i.order);
      within = omega (arith, few, same, part, c.min-wanted.ensures, c.loop-at-test.true);
      size = omega (arith, size, same, part, length-drop wanted buffer, i.size, c.min-wanted.ensures);
      bytes = i.bytes ++ more;
      count = omega (arith, i.count, i.order, length-append i.bytes more, ap length is_more, length-take-le count read few.1);
      got = got_more _ i.bytes _ more _ i.got c.in-Ok-write_all.ensures.writes.0;
      are = λ ps is. sent_more (bytes_of ps c.args.body.now) i.bytes more c.args.from c.loop-at.at count i.order (i.are ps is) (is_more ∙ c.in-Ok.ensures.bytes ps (ap told i.read.seen_same ∙ is));
      read = reads_on d.seen d.may_leave d.moment d.left_since _ _ _ i.read c.read_some.ensures.read;
      faults = omega (arith, i.faults, c.read_some.ensures.cause.later);
      writes = omega (arith, i.writes, c.in-Ok-write_all.ensures.writes.1);
      stays = g.met.K.Sink.sink_joined _ _ _ i.stays c.write_all.ensures.stays;
    }

pub returns-in-Err-write_all-clause-sent : goal.returns-in-Err-write_all-clause-sent
returns-in-Err-write_all-clause-sent g c =
    let i = c.loop-at.invariant in
    let buffer = c.loop-at.buffer in
    let wanted = c.min-wanted.result in
    let count = c.in-Ok.count in
    let read = c.read_some.new.into in
    let more = take count (read ++ drop wanted buffer) in
    let few = c.in-Ok.ensures.count in
    let is_more = take-append-le count read (drop wanted buffer) few.1 in
    let size = ap length is_more ∙ length-take-le count read few.1 in
    let part = length-take-le wanted buffer (omega (arith, c.min-wanted.ensures)) in
    let w = c.in-Err-write_all.ensures.writes.0 in
    let sent = i.bytes ++ w.written in
    let n = length w.written in
    let here : c.loop-at.at + n ≤ c.args.to = omega (arith, w.short, size, few, c.read_some.auto.into, part, c.min-wanted.ensures, c.loop-at-test.true) in
    let r = all_sent (told (g.D.Disk.seen c.args.disk.now)) sent c.args.from (c.loop-at.at + n) c.args.to c.args.body.now (omega (arith, i.order)) here c.requires.part.1 (omega (arith, length-append i.bytes w.written, i.count, i.order))
    (λ ps is. sent_more (bytes_of ps c.args.body.now) i.bytes w.written c.args.from c.loop-at.at n i.order (i.are ps is)
    (front_is w.written more (drop c.loop-at.at (bytes_of ps c.args.body.now)) count w.front (is_more ∙ c.in-Ok.ensures.bytes ps (ap told i.read.seen_same ∙ is)) (omega (arith, w.short, size)))) in (
      r.bytes,
      r.size,
      (
        wrote_front _ _ sent r.bytes r.front (omega (arith, r.size, length-append i.bytes w.written, i.count, i.order, w.short, size, few, c.read_some.auto.into, part, c.min-wanted.ensures, c.loop-at-test.true)) (got_more _ i.bytes _ w.written _ i.got w.grew),
        omega (arith, i.writes, c.in-Err-write_all.ensures.writes.1),
      ),
      r.told_is,
    )
