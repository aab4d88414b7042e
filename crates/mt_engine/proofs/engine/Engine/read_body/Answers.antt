use Rattle.std.proofs.Common.{sym, subst}
use Rattle.std.proofs.lemmas.Result.{on_ok_weaker}
use Rattle.mt_log.specs.LogImage.{payloads_of}
use Rattle.mt_log.specs.LogState.{IsThere}
use Rattle.mt_body.specs.Stored.{bytes_of}
use Rattle.mt_opening.specs.Current.{EngineState}
use Rattle.mt_opening.proofs.Held.{told_now}
use Rattle.mt_opening.proofs.Looks.{where_failed}
use Rattle.mt_engine.proofs.Objects.{stands_for}
use Rattle.mt_engine.proofs.engine.Engine.read_body.Goals as goal

pub read_body-requires-clause-there : goal.read_body-requires-clause-there
read_body-requires-clause-there g c = subst (λ (e : EngineState). IsThere g.D.Disk.seen c.args.disk.now e.log) (sym c.self.view_is) c.requires.ready.there

pub returns-clause-part : goal.returns-clause-part
returns-clause-part g c base h i =
    let ps = payloads_of i.is_read.files in
    let seen = g.D.Disk.seen c.args.disk.now in (
      bytes_of ps c.args.body.now,
      stands_for seen c.args.self.now base h i c.args.body.now,
      on_ok_weaker c.read_body.result (λ all. all ps (told_now seen c.args.self.now base h i)) c.read_body.ensures.bytes,
    )

pub returns-clause-looks : goal.returns-clause-looks
returns-clause-looks g c =
    let read = c.read_body.ensures in
    record { read = read.read; stays = read.stays; disk = λ is. where_failed c.read_body.result read.cause.failed is; faults = read.cause.later }
