-- what was read so far is kept
use Rattle.std.proofs.Common.{◌≤◌, ◌-◌, length}
use Rattle.mt_base.specs.Counts.{NeverFell}
use Rattle.mt_edge.specs.Stream.{LeftAfter}
use Rattle.mt_helper.specs.declared.limits.TheConstants.{LARGEST_INPUT}
use Rattle.mt_helper.proofs.helping.read_input.Given as goal

abbrev pub invariant-read : goal.invariant-read
invariant-read g l = record {
  took : LeftAfter (g.S.Source.left l.fn.source) l.bytes.items (g.S.Source.left l.source);
  few : length l.bytes.items ≤ LARGEST_INPUT;
  stays : g.S.Source.source_stays l.fn.source l.source;
  faults : NeverFell (g.S.Source.read_faults l.fn.source) (g.S.Source.read_faults l.source);
}

abbrev pub decreases-read : goal.decreases-read
decreases-read g l = LARGEST_INPUT - length l.bytes.items
