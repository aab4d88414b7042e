-- the lines of the rest are left
use Rattle.std.proofs.Common.{drop}
use Rattle.mt_cert.proofs.Parts.{tasks_from}
use Rattle.mt_cert.specs.Putting.{out_at}
use Rattle.mt_cert.proofs.Puttings.{GoesOn}
use Rattle.mt_cert.proofs.tasks.put_phases.Given as goal

abbrev pub invariant-loop-index : goal.invariant-loop-index
invariant-loop-index g l = record {
  on : GoesOn l.login (tasks_from l.job 0 l.job.document.phases) (tasks_from l.job l.index (drop l.index l.job.document.phases)) (out_at l.fn.page (g.K.Sink.got l.fn.sink) (g.K.Sink.write_faults l.fn.sink)) (out_at l.page (g.K.Sink.got l.sink) (g.K.Sink.write_faults l.sink));
  stays : g.K.Sink.sink_stays l.fn.sink l.sink;
}
