-- As many parts as turns, each the body.
use Rattle.std.proofs.Common.{◌≡◌, length}
use Rattle.std.specs.List.{All}
use Rattle.body_bench.proofs.work.parts_of.Given as goal

abbrev pub invariant-loop-index : goal.invariant-loop-index
invariant-loop-index l =
    record {
      count : length l.parts.items ≡ l.index;
      same : All (λ p. p.body ≡ l.fn.body) l.parts.items;
    }
