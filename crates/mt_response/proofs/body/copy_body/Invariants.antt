-- what came so far is the body's front, and stands in the sink
use Rattle.std.proofs.Common.{◌≡◌, ◌≤◌, ◌<◌, ◌-◌, List, ℕ, length}
use Rattle.mt_base.specs.Counts.{NeverFell}
use Rattle.mt_response.specs.Reading.{Moved}
use Rattle.mt_response.proofs.body.copy_body.Given as goal

abbrev pub invariant-loop-done : goal.invariant-loop-done
invariant-loop-done g l = record {
  body : List ℕ;
  size : length body ≡ l.done;
  within : l.done ≤ l.len;
  room : 0 < length l.buffer;
  moved : Moved (g.L.Source.left l.fn.link) (g.K.Sink.got l.fn.sink) body (g.L.Source.left l.link) (g.K.Sink.got l.sink);
  stays : g.L.Source.source_stays l.fn.link l.link;
  sink_stays : g.K.Sink.sink_stays l.fn.sink l.sink;
  reads : NeverFell (g.L.Source.read_faults l.fn.link) (g.L.Source.read_faults l.link);
  writes : NeverFell (g.K.Sink.write_faults l.fn.sink) (g.K.Sink.write_faults l.sink);
}

abbrev pub decreases-loop-done : goal.decreases-loop-done
decreases-loop-done g l = l.len - l.done
