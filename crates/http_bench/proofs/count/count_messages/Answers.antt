use Rattle.http_bench.proofs.Messages.{goes_on}
use Rattle.http_bench.proofs.count.count_messages.Goals as goal

pub loop-preserved : goal.loop-preserved
loop-preserved g c =
    let before = c.loop.invariant in
    let read = c.in-Ok-read_head.ensures.read in (
      before.0,
      goes_on _ _ _ _ read.0.0 c.in-Ok-read_head.head c.in_ok-size.size c.loop.counts c.in_ok-counts.counts before.1 read.0.1 read.0.2 c.in_ok-size.ensures.whole (cc (c.in_ok-counts.ensures, c.as_slice.ensures)),
      g.met.S.Source.source_joined _ _ _ (g.met.S.Source.source_joined _ _ _ before.2 c.in-Ok-read_head.ensures.stays) c.in_ok-size.ensures.stays,
    )
