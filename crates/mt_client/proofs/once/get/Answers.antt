-- What is left stays so while the request goes out, and what was sent while the reply comes in.
use Rattle.std.proofs.Common.{◌++◌, Ok, Err, refl, inr, sym, ◌∙◌}
use Rattle.mt_client.specs.Exchanges.{object_limit}
use Rattle.mt_client.specs.Once.{PlaysGet}
use Rattle.mt_client.specs.Requests.{Sides, sides_of}
use Rattle.mt_client.proofs.Asking.{front_got, sent_on}
use Rattle.mt_client.proofs.Getting.{copied, leads_at, other, unled}
use Rattle.mt_client.proofs.once.get.Goals as goal

pub returns-then-is_success-clause-plays : goal.returns-then-is_success-clause-plays
returns-then-is_success-clause-plays g c =
    let request = c.args.head.now ++ c.args.input.now in
    let old = c.args.link.now in
    let mid = c.send.new.link in
    let led = c.receive_head.new.link in
    let new = c.copy.new.link in
    let a : Sides = sides_of g.L.Source.left g.L.Source.read_faults g.L.Sink.got g.L.Sink.write_faults g.K.Sink.got g.K.Sink.write_faults old c.args.sink.now in
    let b : Sides = sides_of g.L.Source.left g.L.Source.read_faults g.L.Sink.got g.L.Sink.write_faults g.K.Sink.got g.K.Sink.write_faults new c.copy.new.sink in
    let out = g.met.L.Both.write_keeps old mid c.in-Ok.ensures.stays in
    let head = g.met.L.Both.read_keeps mid led c.in-Ok-receive_head.ensures.stays in
    let leads = leads_at object_limit (g.L.Source.left mid) (g.L.Source.left old) (g.L.Source.read_faults mid) (g.L.Source.read_faults old) (Ok c.in-Ok-receive_head.lead) (g.L.Source.left led) (g.L.Source.read_faults led) out.0 out.1 c.in-Ok-receive_head.ensures.read in
    let body = g.met.L.Both.read_keeps led new c.copy.ensures.stays in
    let sent = sent_on (g.L.Sink.got old) request (g.L.Sink.got mid) (g.L.Sink.got new) c.in-Ok.ensures.writes.0 (body.0 ∙ head.0) in
    let status = sym c.is_success.ensures ∙ c.if-is_success.true in
    PlaysGet.ByCopy (copied c.args.words.now request a b sent c.in-Ok-receive_head.lead (g.L.Source.left led) (g.L.Source.read_faults led) leads c.copy.result status c.copy.ensures.copies)

pub returns-in-Ok-receive_head-clause-plays : goal.returns-in-Ok-receive_head-clause-plays
returns-in-Ok-receive_head-clause-plays g c =
    let request = c.args.head.now ++ c.args.input.now in
    let old = c.args.link.now in
    let mid = c.send.new.link in
    let led = c.receive_head.new.link in
    let new = c.read_rest.new.link in
    let a : Sides = sides_of g.L.Source.left g.L.Source.read_faults g.L.Sink.got g.L.Sink.write_faults g.K.Sink.got g.K.Sink.write_faults old c.args.sink.now in
    let b : Sides = sides_of g.L.Source.left g.L.Source.read_faults g.L.Sink.got g.L.Sink.write_faults g.K.Sink.got g.K.Sink.write_faults new c.read_rest.new.sink in
    let out = g.met.L.Both.write_keeps old mid c.in-Ok.ensures.stays in
    let head = g.met.L.Both.read_keeps mid led c.in-Ok-receive_head.ensures.stays in
    let leads = leads_at object_limit (g.L.Source.left mid) (g.L.Source.left old) (g.L.Source.read_faults mid) (g.L.Source.read_faults old) (Ok c.in-Ok-receive_head.lead) (g.L.Source.left led) (g.L.Source.read_faults led) out.0 out.1 c.in-Ok-receive_head.ensures.read in
    let body = g.met.L.Both.read_keeps led new c.read_rest.ensures.stays in
    let sent = sent_on (g.L.Sink.got old) request (g.L.Sink.got mid) (g.L.Sink.got new) c.in-Ok.ensures.writes.0 (body.0 ∙ head.0) in
    let status = sym c.is_success.ensures ∙ c.if-is_success.false in
    other c.args.words.now request a b sent c.in-Ok-receive_head.lead (g.L.Source.left led) (g.L.Source.read_faults led) leads c.read_rest.result status c.read_rest.ensures.rest

pub returns-in-Ok-clause-plays : goal.returns-in-Ok-clause-plays
returns-in-Ok-clause-plays g c =
    let request = c.args.head.now ++ c.args.input.now in
    let old = c.args.link.now in
    let mid = c.send.new.link in
    let led = c.receive_head.new.link in
    let a : Sides = sides_of g.L.Source.left g.L.Source.read_faults g.L.Sink.got g.L.Sink.write_faults g.K.Sink.got g.K.Sink.write_faults old c.args.sink.now in
    let b : Sides = sides_of g.L.Source.left g.L.Source.read_faults g.L.Sink.got g.L.Sink.write_faults g.K.Sink.got g.K.Sink.write_faults led c.args.sink.now in
    let out = g.met.L.Both.write_keeps old mid c.in-Ok.ensures.stays in
    let head = g.met.L.Both.read_keeps mid led c.in-Err-receive_head.ensures.stays in
    let leads = leads_at object_limit (g.L.Source.left mid) (g.L.Source.left old) (g.L.Source.read_faults mid) (g.L.Source.read_faults old) (Err c.in-Err-receive_head.end) (g.L.Source.left led) (g.L.Source.read_faults led) out.0 out.1 c.in-Err-receive_head.ensures.read in
    let sent = sent_on (g.L.Sink.got old) request (g.L.Sink.got mid) (g.L.Sink.got led) c.in-Ok.ensures.writes.0 head.0 in
    unled c.args.words.now request a b sent c.in-Err-receive_head.end c.link_end.result c.link_end.ensures leads refl

pub returns-clause-plays : goal.returns-clause-plays
returns-clause-plays g c = PlaysGet.ByBreak refl (record {
  sent = front_got (g.L.Sink.got c.args.link.now) (c.args.head.now ++ c.args.input.now) (g.L.Sink.got c.send.new.link) c.in-Err.ensures.writes.0;
  written = refl;
  rose = inr c.in-Err.ensures.writes.1;
})

pub returns-then-is_success-clause-stays : goal.returns-then-is_success-clause-stays
returns-then-is_success-clause-stays g c =
    g.L.Both.joined _ _ _ (g.L.Both.joined _ _ _ (g.met.L.Both.write_keeps _ _ c.in-Ok.ensures.stays).2 (g.met.L.Both.read_keeps _ _ c.in-Ok-receive_head.ensures.stays).2) (g.met.L.Both.read_keeps _ _ c.copy.ensures.stays).2

pub returns-in-Ok-receive_head-clause-stays : goal.returns-in-Ok-receive_head-clause-stays
returns-in-Ok-receive_head-clause-stays g c =
    g.L.Both.joined _ _ _ (g.L.Both.joined _ _ _ (g.met.L.Both.write_keeps _ _ c.in-Ok.ensures.stays).2 (g.met.L.Both.read_keeps _ _ c.in-Ok-receive_head.ensures.stays).2) (g.met.L.Both.read_keeps _ _ c.read_rest.ensures.stays).2

pub returns-in-Ok-clause-stays : goal.returns-in-Ok-clause-stays
returns-in-Ok-clause-stays g c =
    g.L.Both.joined _ _ _ (g.met.L.Both.write_keeps _ _ c.in-Ok.ensures.stays).2 (g.met.L.Both.read_keeps _ _ c.in-Err-receive_head.ensures.stays).2

pub returns-clause-stays : goal.returns-clause-stays
returns-clause-stays g c = (g.met.L.Both.write_keeps _ _ c.in-Err.ensures.stays).2
