-- The messages so far are counted, and the piece has room.
use Rattle.std.proofs.Common.{◌<◌, vec_len}
use Rattle.std.specs.Prelude.{IfSome}
use Rattle.http_bench.specs.Counting.{SoFar}
use Rattle.http_bench.proofs.count.count_messages.Given as goal

abbrev pub invariant-loop : goal.invariant-loop
invariant-loop g l =
    (0 < vec_len l.piece)
    × IfSome (g.S.Source.left l.initial.source) (λ bytes. SoFar bytes l.counts (g.S.Source.left l.source))
    × g.S.Source.source_stays l.initial.source l.source
