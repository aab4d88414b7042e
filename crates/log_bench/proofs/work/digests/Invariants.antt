use Rattle.std.proofs.Common.{replicate}
use Rattle.std.specs.List.{concat}
use Rattle.md5.specs.Md5.{Holds, md5}
use Rattle.log_bench.proofs.work.digests.Given as goal

abbrev pub invariant-loop-done : goal.invariant-loop-done
invariant-loop-done l = Holds l.all (concat (replicate l._done (md5 l.payload)))
