-- the lines of the rest are left
use Rattle.std.proofs.Common.{drop}
use Rattle.mt_cert.specs.Reading.{task_lines}
use Rattle.mt_cert.specs.Putting.{out_at}
use Rattle.mt_cert.proofs.Puttings.{GoesOn}
use Rattle.mt_cert.proofs.tasks.put_tasks.Given as goal

abbrev pub invariant-loop-entry : goal.invariant-loop-entry
invariant-loop-entry g l = record {
  on : GoesOn l.login (task_lines l.opened l.trace) (task_lines l.opened (drop l.entry-index l.trace)) (out_at l.fn.page (g.K.Sink.got l.fn.sink) (g.K.Sink.write_faults l.fn.sink)) (out_at l.page (g.K.Sink.got l.sink) (g.K.Sink.write_faults l.sink));
  stays : g.K.Sink.sink_stays l.fn.sink l.sink;
}
