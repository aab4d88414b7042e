-- What the last phase gave are the outputs.
use Rattle.std.proofs.Common.{◌≡◌, ◌-◌, arith, length, subst, suc}
use Rattle.mt_cert.specs.Putting.{PutsTo, out_at}
use Rattle.mt_cert.specs.Reading.{given_lines}
use Rattle.mt_cert.proofs.Parts.{outputs_listed}
use Rattle.mt_cert.proofs.names.put_outputs.Goals as goal

pub returns-clause-puts : goal.returns-clause-puts
returns-clause-puts g c =
    let job = c.args.job.now in
    let login = c.args.login.now in
    let last = c.len-last.result - 1 in
    let is : length job.document.phases ≡ suc last = omega (arith, c.len-last.ensures, c.requires.some) in
    subst (λ ls. PutsTo login ls c.put_given.result (out_at c.args.page.now (g.K.Sink.got c.args.sink.now) (g.K.Sink.write_faults c.args.sink.now)) (out_at c.put_given.new.page (g.K.Sink.got c.put_given.new.sink) (g.K.Sink.write_faults c.put_given.new.sink))) (outputs_listed job last is)
    (subst (λ es. PutsTo login (given_lines last es) c.put_given.result (out_at c.args.page.now (g.K.Sink.got c.args.sink.now) (g.K.Sink.write_faults c.args.sink.now)) (out_at c.put_given.new.page (g.K.Sink.got c.put_given.new.sink) (g.K.Sink.write_faults c.put_given.new.sink))) c.as_slice.ensures c.put_given.ensures.puts)
