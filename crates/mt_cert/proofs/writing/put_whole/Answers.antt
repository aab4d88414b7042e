-- What is left in the page goes too.
use Rattle.mt_certline.specs.Certificate.{lines_of}
use Rattle.mt_cert.specs.Putting.{out_at}
use Rattle.mt_cert.specs.Reading.{certificate_in}
use Rattle.mt_cert.proofs.Puttings.{then_none}
use Rattle.mt_cert.proofs.writing.put_whole.Goals as goal

pub returns-clause-puts : goal.returns-clause-puts
returns-clause-puts g c =
    then_none c.args.login.now (lines_of (certificate_in c.args.job.now)) c.send.result (out_at c.args.page.now (g.K.Sink.got c.args.sink.now) (g.K.Sink.write_faults c.args.sink.now)) (out_at c.put_certificate.new.page (g.K.Sink.got c.put_certificate.new.sink) (g.K.Sink.write_faults c.put_certificate.new.sink)) (out_at c.send.new.page (g.K.Sink.got c.send.new.sink) (g.K.Sink.write_faults c.send.new.sink))
    c.in_ok-put_certificate.ensures.puts (c.send.ensures.sends c.args.login.now)
