-- The calls so far lost nothing.
use Rattle.std.specs.Io.KnownBytes.{Keeps}
use Rattle.mt_adapters.proofs.counted.read_retrying.Given as goal

abbrev pub invariant-loop : goal.invariant-loop
invariant-loop g l = Keeps (g.R.Read.remaining l.fn.reader) (g.R.Read.remaining l.reader)
