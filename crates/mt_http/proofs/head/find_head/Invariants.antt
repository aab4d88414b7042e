use Rattle.std.proofs.Common.{◌≡◌, ◌-◌, ◌≤◌, ◌++◌, List, length}
use Rattle.httparse.specs.Grammar.{LineEnd, print_blank}
use Rattle.mt_base.specs.Counts.{NeverFell}
use Rattle.mt_edge.specs.Stream.{LeftAfter}
use Rattle.mt_http.specs.Framing.{head_limit}
use Rattle.mt_http.specs.Reading.{IsHeadFront}
use Rattle.mt_http.proofs.head.find_head.Given as goal

-- all that was read so far are empty lines and the first bytes of a head
abbrev pub invariant-pieces : goal.invariant-pieces
invariant-pieces g l = record {
  so_far : (lines : List LineEnd) × LeftAfter (g.S.Source.left l.initial.source) (print_blank lines ++ l.head.items) (g.S.Source.left l.source) × (length (print_blank lines ++ l.head.items) ≡ l.taken);
  front : IsHeadFront l.head.items;
  stays : g.S.Source.source_stays l.initial.source l.source;
  faults : NeverFell (g.S.Source.read_faults l.initial.source) (g.S.Source.read_faults l.source);
  within : l.taken ≤ head_limit;
}

abbrev pub decreases-pieces : goal.decreases-pieces
decreases-pieces g l = head_limit - l.taken
