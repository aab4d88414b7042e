-- what was read so far is a begun line
use Rattle.std.proofs.Common.{◌<◌, ◌-◌, length}
use Rattle.mt_base.specs.Counts.{NeverFell}
use Rattle.mt_edge.specs.Stream.{LeftAfter}
use Rattle.mt_checker.specs.Sources.{IsClear}
use Rattle.mt_checker.specs.declared.limits.TheConstants.{LONGEST_LINE}
use Rattle.mt_checker.proofs.lines.read_text.Given as goal

abbrev pub invariant-pieces : goal.invariant-pieces
invariant-pieces g l = record {
  took : LeftAfter (g.S.Source.left l.fn.source) l.line.items (g.S.Source.left l.source);
  clear : IsClear l.line.items;
  short : length l.line.items < LONGEST_LINE;
  stays : g.S.Source.source_stays l.fn.source l.source;
  faults : NeverFell (g.S.Source.read_faults l.fn.source) (g.S.Source.read_faults l.source);
}

abbrev pub decreases-pieces : goal.decreases-pieces
decreases-pieces g l = LONGEST_LINE - length l.line.items
