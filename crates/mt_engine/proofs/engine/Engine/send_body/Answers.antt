use Rattle.std.proofs.Common.{sym, subst}
use Rattle.mt_log.specs.LogImage.{payloads_of}
use Rattle.mt_log.specs.LogState.{IsThere}
use Rattle.mt_body.specs.Sending.{Sends}
use Rattle.mt_body.specs.Stored.{bytes_of}
use Rattle.mt_opening.specs.Current.{EngineState}
use Rattle.mt_opening.specs.History.{Bytes}
use Rattle.mt_opening.proofs.Held.{told_now}
use Rattle.mt_engine.proofs.Objects.{stands_for}
use Rattle.mt_engine.proofs.engine.Engine.send_body.Goals as goal

pub send_body-requires-clause-there : goal.send_body-requires-clause-there
send_body-requires-clause-there g c = subst (λ (e : EngineState). IsThere g.D.Disk.seen c.args.disk.now e.log) (sym c.self.view_is) c.requires.ready.there

pub returns-clause-part : goal.returns-clause-part
returns-clause-part g c base h i =
    let d = g.D.Disk in
    let k = g.K.Sink in
    let ps = payloads_of i.is_read.files in
    let sent = c.send_body.ensures.sent in (
      bytes_of ps c.args.body.now,
      stands_for (d.seen c.args.disk.now) c.args.self.now base h i c.args.body.now,
      subst (λ (bytes : Bytes). Sends c.send_body.result bytes (k.got c.args.sink.now) (k.got c.send_body.new.sink) (k.write_faults c.args.sink.now) (k.write_faults c.send_body.new.sink))
          (sent.3 ps (told_now (d.seen c.args.disk.now) c.args.self.now base h i)) sent.2,
    )

pub returns-clause-reads : goal.returns-clause-reads
returns-clause-reads g c =
    let sent = c.send_body.ensures in
    record { read = sent.read; disk = sent.disk; faults = sent.faults }
