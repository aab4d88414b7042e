-- What was read so far stands at the front.
use Rattle.std.proofs.Common.{length, ◌-◌, ◌≤◌, take}
use Rattle.mt_base.specs.Counts.{NeverFell}
use Rattle.mt_edge.specs.Stream.{LeftAfter}
use Rattle.mt_body.proofs.fill.fill_piece.Given as goal

abbrev pub invariant-loop-done : goal.invariant-loop-done
invariant-loop-done g l = record {
  within : l.done ≤ length l.into;
  took : LeftAfter (g.S.Source.left l.fn.source) (take l.done l.into) (g.S.Source.left l.source);
  stays : g.S.Source.source_stays l.fn.source l.source;
  faults : NeverFell (g.S.Source.read_faults l.fn.source) (g.S.Source.read_faults l.source);
}

abbrev pub decreases-loop-done : goal.decreases-loop-done
decreases-loop-done g l = length l.into - l.done
