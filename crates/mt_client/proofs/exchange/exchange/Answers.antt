-- What is left stays so while the request goes out, and what was sent while the reply comes in.
use Rattle.std.proofs.Common.{◌++◌, Ok, Err, inr}
use Rattle.mt_client.proofs.Asking.{asked, front_got, quiet_on, receives_at, sent_on, unanswered}
use Rattle.mt_client.proofs.exchange.exchange.Goals as goal

pub returns-in-Ok-receive-clause-asks : goal.returns-in-Ok-receive-clause-asks
returns-in-Ok-receive-clause-asks g c =
    let request = c.args.head.now ++ c.args.body.now in
    let old = c.args.link.now in
    let mid = c.send.new.link in
    let new = c.receive.new.link in
    let out = g.met.L.Both.write_keeps old mid c.in-Ok.ensures.stays in
    let back = g.met.L.Both.read_keeps mid new c.in-Ok-receive.ensures.stays in
    asked c.args.limit request (g.L.Source.left old) (g.L.Source.read_faults old) (g.L.Sink.got old) (g.L.Sink.write_faults old)
    (g.L.Source.left new) (g.L.Source.read_faults new) (g.L.Sink.got new) (g.L.Sink.write_faults new)
    (sent_on (g.L.Sink.got old) request (g.L.Sink.got mid) (g.L.Sink.got new) c.in-Ok.ensures.writes.0 back.0)
    (quiet_on (g.L.Sink.write_faults old) (g.L.Sink.write_faults mid) (g.L.Sink.write_faults new) c.in-Ok.ensures.writes.1 back.1)
    c.in-Ok-receive.reply
    (receives_at c.args.limit (g.L.Source.left mid) (g.L.Source.left old) (g.L.Source.read_faults mid) (g.L.Source.read_faults old) (Ok c.in-Ok-receive.reply) (g.L.Source.left new) (g.L.Source.read_faults new) out.0 out.1
    c.in-Ok-receive.ensures.read)

pub returns-in-Err-receive-clause-asks : goal.returns-in-Err-receive-clause-asks
returns-in-Err-receive-clause-asks g c =
    let request = c.args.head.now ++ c.args.body.now in
    let old = c.args.link.now in
    let mid = c.send.new.link in
    let new = c.receive.new.link in
    let out = g.met.L.Both.write_keeps old mid c.in-Ok.ensures.stays in
    let back = g.met.L.Both.read_keeps mid new c.in-Err-receive.ensures.stays in
    unanswered c.args.limit request (g.L.Source.left old) (g.L.Source.read_faults old) (g.L.Sink.got old) (g.L.Sink.write_faults old)
    (g.L.Source.left new) (g.L.Source.read_faults new) (g.L.Sink.got new) (g.L.Sink.write_faults new)
    (sent_on (g.L.Sink.got old) request (g.L.Sink.got mid) (g.L.Sink.got new) c.in-Ok.ensures.writes.0 back.0)
    (quiet_on (g.L.Sink.write_faults old) (g.L.Sink.write_faults mid) (g.L.Sink.write_faults new) c.in-Ok.ensures.writes.1 back.1)
    c.in-Err-receive.end c.link_end.result c.link_end.ensures
    (receives_at c.args.limit (g.L.Source.left mid) (g.L.Source.left old) (g.L.Source.read_faults mid) (g.L.Source.read_faults old) (Err c.in-Err-receive.end) (g.L.Source.left new) (g.L.Source.read_faults new) out.0 out.1
    c.in-Err-receive.ensures.read)

pub returns-in-Err-clause-asks : goal.returns-in-Err-clause-asks
returns-in-Err-clause-asks g c = (front_got (g.L.Sink.got c.args.link.now) (c.args.head.now ++ c.args.body.now) (g.L.Sink.got c.send.new.link) c.in-Err.ensures.writes.0, inr c.in-Err.ensures.writes.1)

pub returns-in-Ok-receive-clause-stays : goal.returns-in-Ok-receive-clause-stays
returns-in-Ok-receive-clause-stays g c =
    g.L.Both.joined _ _ _ (g.met.L.Both.write_keeps _ _ c.in-Ok.ensures.stays).2 (g.met.L.Both.read_keeps _ _ c.in-Ok-receive.ensures.stays).2

pub returns-in-Err-receive-clause-stays : goal.returns-in-Err-receive-clause-stays
returns-in-Err-receive-clause-stays g c =
    g.L.Both.joined _ _ _ (g.met.L.Both.write_keeps _ _ c.in-Ok.ensures.stays).2 (g.met.L.Both.read_keeps _ _ c.in-Err-receive.ensures.stays).2

pub returns-in-Err-clause-stays : goal.returns-in-Err-clause-stays
returns-in-Err-clause-stays g c = (g.met.L.Both.write_keeps _ _ c.in-Err.ensures.stays).2
