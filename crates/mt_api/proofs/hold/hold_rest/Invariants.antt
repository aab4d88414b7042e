-- What was read so far is held.
use Rattle.mt_base.specs.Counts.{NeverFell}
use Rattle.mt_edge.specs.Stream.{LeftAfter}
use Rattle.mt_api.proofs.hold.hold_rest.Given as goal

abbrev pub invariant-rest : goal.invariant-rest
invariant-rest g l = record {
  took : LeftAfter (g.S.Source.left l.fn.source) l.bytes.items (g.S.Source.left l.source);
  stays : g.S.Source.source_stays l.fn.source l.source;
  faults : NeverFell (g.S.Source.read_faults l.fn.source) (g.S.Source.read_faults l.source);
}
