use Rattle.std.proofs.Common.{take}
use Rattle.mt_cert.specs.Seen.{IsSeenTrace}
use Rattle.mt_cert.proofs.held.see_trace.Given as goal

abbrev pub invariant-loop-entry : goal.invariant-loop-entry
invariant-loop-entry l = IsSeenTrace (take l.entry-index l.trace) l.count
