-- The calls so far lost nothing.
use Rattle.std.specs.Io.KnownBytes.{Keeps}
use Rattle.mt_adapters.proofs.patient.read_waiting.Given as goal

abbrev pub invariant-loop : goal.invariant-loop
invariant-loop g l = Keeps (g.S.Read.remaining l.fn.stream) (g.S.Read.remaining l.stream)
