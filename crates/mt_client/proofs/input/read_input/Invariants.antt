-- what came so far is the source's front
use Rattle.std.proofs.Common.{◌-◌, length}
use Rattle.mt_base.specs.Counts.{NeverFell}
use Rattle.mt_edge.specs.Stream.{LeftAfter}
use Rattle.mt_client.proofs.input.read_input.Given as goal

abbrev pub invariant-pieces : goal.invariant-pieces
invariant-pieces g l = record {
  gone : LeftAfter (g.S.Source.left l.fn.source) l.input.items (g.S.Source.left l.source);
  stays : g.S.Source.source_stays l.fn.source l.source;
  faults : NeverFell (g.S.Source.read_faults l.fn.source) (g.S.Source.read_faults l.source);
}

abbrev pub decreases-pieces : goal.decreases-pieces
decreases-pieces g l = 16777217 - length l.input.items
