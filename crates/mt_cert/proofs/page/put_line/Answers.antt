-- The line went into the page, and the page to the sink.
use Rattle.std.proofs.Common.{rules}
use Rattle.mt_cert.specs.Putting.{HasLine, out_at}
use Rattle.mt_cert.proofs.Puttings.{put_sent}
use Rattle.mt_cert.proofs.page.put_line.Goals as goal

pub returns-clause-puts : goal.returns-clause-puts
returns-clause-puts g c =
    let has : HasLine c.args.login.now c.args.line.now c.args.page.now c.add_line.new.page = search rules in
    put_sent c.args.login.now c.args.line.now c.args.page.now c.add_line.new.page (g.K.Sink.got c.args.sink.now) (g.K.Sink.write_faults c.args.sink.now) c.send.result
    (out_at c.send.new.page (g.K.Sink.got c.send.new.sink) (g.K.Sink.write_faults c.send.new.sink)) has (c.send.ensures.sends c.args.login.now)
