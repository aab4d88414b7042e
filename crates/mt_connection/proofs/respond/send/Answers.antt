-- The head alone; and a part is asked for that is there.
use Rattle.std.proofs.Common.{ap, sym, subst, ◌∙◌, ◌-◌, List, ℕ}
use Rattle.mt_http.specs.Options as options
use Rattle.mt_http.specs.ReplyText.{head_text}
use Rattle.mt_connection.specs.Steps.{CanBeRead, IsBodyOf, Sends}
use Rattle.mt_connection.proofs.Sending.{bare_text, some_bytes}
use Rattle.mt_connection.proofs.respond.send.Goals as goal

pub send_part-requires-clause-ready : goal.send_part-requires-clause-ready
send_part-requires-clause-ready g c =
    let shown = subst (λ r. CanBeRead (g.D.Disk.seen c.args.disk.now) r) c.in-Part.is c.requires.shown in
    record { there = c.requires.ready.there; is_open = c.requires.ready.is_open; stored = shown.2 }

pub returns-then-is_bare-clause-sends : goal.returns-then-is_bare-clause-sends
returns-then-is_bare-clause-sends g c =
    let seen = g.D.Disk.seen c.args.disk.now in
    let text : List ℕ = head_text c.args.reply.now.status c.args.reply.now.fields c.args.reply.now.closes (c.in-Part.to - c.in-Part.from) in
    let shown = subst (λ r. CanBeRead seen r) c.in-Part.is c.requires.shown in
    let b = some_bytes seen c.in-Part.body c.in-Part.from c.in-Part.to shown.0 shown.1 in (
      b.0,
      subst (λ r. IsBodyOf seen r b.0) (sym c.in-Part.is) b.1,
      subst (λ t. Sends (options.closes c.args.head.now.minor c.args.head.now.fields) t c.step_of-then-is_bare.result (g.K.Sink.got c.args.sink.now) (g.K.Sink.got c.write_head.new.sink) (g.K.Sink.write_faults c.args.sink.now) (g.K.Sink.write_faults c.write_head.new.sink) (g.D.Disk.faults c.args.disk.now) (g.D.Disk.faults c.args.disk.now))
          (sym (bare_text c.args.reply.now b.0 c.args.head.now (c.in-Part.to - c.in-Part.from) b.1.0 (sym c.is_bare.ensures ∙ c.if-is_bare.true)))
          (subst (λ x. Sends x text c.step_of-then-is_bare.result (g.K.Sink.got c.args.sink.now) (g.K.Sink.got c.write_head.new.sink) (g.K.Sink.write_faults c.args.sink.now) (g.K.Sink.write_faults c.write_head.new.sink) (g.D.Disk.faults c.args.disk.now) (g.D.Disk.faults c.args.disk.now))
          (c.closes-closing.ensures ∙ ap (λ fields. options.closes c.args.head.now.minor fields) c.as_slice.ensures)
          (c.step_of-then-is_bare.ensures text _ _ _ _ _ c.write_head.ensures.writes)),
    )
