-- The calls so far wrote nothing.
use Rattle.std.specs.Io.KnownBytes.{Keeps}
use Rattle.mt_adapters.proofs.patient.write_waiting.Given as goal

abbrev pub invariant-loop : goal.invariant-loop
invariant-loop g l = Keeps (g.S.Write.contents l.fn.stream) (g.S.Write.contents l.stream)
