-- what came so far is the body's front
use Rattle.std.proofs.Common.{◌≡◌, ◌+◌, length}
use Rattle.mt_base.specs.Counts.{NeverFell}
use Rattle.mt_edge.specs.Stream.{LeftAfter}
use Rattle.mt_response.proofs.body.read_reply_body.Given as goal

abbrev pub invariant-loop-left : goal.invariant-loop-left
invariant-loop-left g l = record {
  gone : LeftAfter (g.L.Source.left l.fn.link) l.body.items (g.L.Source.left l.link);
  size : length l.body.items + l.left ≡ l.len;
  stays : g.L.Source.source_stays l.fn.link l.link;
  faults : NeverFell (g.L.Source.read_faults l.fn.link) (g.L.Source.read_faults l.link);
}

abbrev pub decreases-loop-left : goal.decreases-loop-left
decreases-loop-left g l = l.left
