use Rattle.std.proofs.Common.{◌++◌, take, length-append, length-take, arith}
use Rattle.mt_edge.proofs.Streams.{left_after}
use Rattle.http_bench.proofs.count.drain.Goals as goal

pub loop-preserved : goal.loop-preserved
loop-preserved g c =
    let before = c.loop.invariant in
    let read = c.in-Took.ensures.reads in (
      record {
        bytes = before.0.bytes ++ take c.in-Took.more c.read.new.into;
        gone = left_after _ _ _ _ _ before.0.gone read.2;
        size = simp (length-append, length-take) (omega (arith, before.0.size, read.1, c.in-Some.ensures));
      },
      g.met.S.Source.source_joined _ _ _ before.1 c.in-Took.ensures.stays,
    )
