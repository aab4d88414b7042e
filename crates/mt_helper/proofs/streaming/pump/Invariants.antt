-- what was read so far went on
use Rattle.std.proofs.Common.{◌≡◌, ◌≤◌, ◌-◌, true}
use Rattle.std.specs.Prelude.{IfSome}
use Rattle.mt_spawn.specs.Spools.{has_file}
use Rattle.mt_helper.specs.declared.limits.TheConstants.{LARGEST_INPUT}
use Rattle.mt_helper.specs.Ends.{AreLater, ends}
use Rattle.mt_helper.proofs.Streams.{Flows}
use Rattle.mt_helper.proofs.streaming.pump.Given as goal

abbrev pub invariant-read : goal.invariant-read
invariant-read g l = record {
  flows : Flows l.number l.copies l.len (g.S.Source.left l.fn.source) (g.S.Source.left l.source) (g.K.Sink.got l.fn.sink) (g.K.Sink.got l.sink) (g.P.Spool.files l.fn.spool) (g.P.Spool.files l.spool);
  there : IfSome (g.P.Spool.files l.spool) (λ fs. has_file l.number fs ≡ true);
  few : l.len ≤ LARGEST_INPUT;
  later : AreLater
      (ends (g.S.Source.left l.fn.source) (g.K.Sink.got l.fn.sink) (g.P.Spool.files l.fn.spool) (g.S.Source.read_faults l.fn.source) (g.K.Sink.write_faults l.fn.sink) (g.P.Spool.faults l.fn.spool))
      (ends (g.S.Source.left l.source) (g.K.Sink.got l.sink) (g.P.Spool.files l.spool) (g.S.Source.read_faults l.source) (g.K.Sink.write_faults l.sink) (g.P.Spool.faults l.spool));
  source : g.S.Source.source_stays l.fn.source l.source;
  sink : g.K.Sink.sink_stays l.fn.sink l.sink;
}

abbrev pub decreases-read : goal.decreases-read
decreases-read g l = LARGEST_INPUT - l.len
