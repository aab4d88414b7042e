-- the lines of the rest are left
use Rattle.std.proofs.Common.{drop}
use Rattle.mt_cert.specs.Reading.{output_lines}
use Rattle.mt_cert.specs.Putting.{out_at}
use Rattle.mt_cert.proofs.Puttings.{GoesOn}
use Rattle.mt_cert.proofs.names.put_names.Given as goal

abbrev pub invariant-loop-item : goal.invariant-loop-item
invariant-loop-item g l = record {
  on : GoesOn l.login (output_lines l.items) (output_lines (drop l.item-index l.items)) (out_at l.fn.page (g.K.Sink.got l.fn.sink) (g.K.Sink.write_faults l.fn.sink)) (out_at l.page (g.K.Sink.got l.sink) (g.K.Sink.write_faults l.sink));
  stays : g.K.Sink.sink_stays l.fn.sink l.sink;
}
