-- What was read so far was digested.
use Rattle.std.proofs.Common.{◌≤◌, ◌++◌, ℕ, List, length}
use Rattle.md5.specs.Md5.{Holds}
use Rattle.mt_base.specs.Counts.{NeverFell}
use Rattle.mt_edge.specs.Stream.{LeftAfter}
use Rattle.mt_body.proofs.digest.digest_rest.Given as goal

abbrev pub invariant-rest : goal.invariant-rest
invariant-rest g l = record {
  bytes : List ℕ;
  took : LeftAfter (g.S.Source.left l.fn.source) bytes (g.S.Source.left l.source);
  digested : (front : List ℕ) → Holds l.fn.sum front → Holds l.sum (front ++ bytes);
  count : l.counter ≤ length bytes;
  stays : g.S.Source.source_stays l.fn.source l.source;
  faults : NeverFell (g.S.Source.read_faults l.fn.source) (g.S.Source.read_faults l.source);
}
