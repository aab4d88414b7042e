-- What was counted so far is gone from the source.
use Rattle.http_bench.specs.Counting.{Drained}
use Rattle.http_bench.proofs.count.drain.Given as goal

abbrev pub invariant-loop : goal.invariant-loop
invariant-loop g l =
    Drained (g.S.Source.left l.initial.source) l.count (g.S.Source.left l.source)
    × g.S.Source.source_stays l.initial.source l.source
