use Rattle.std.proofs.Common.{arith}
use Rattle.jobs_rows.proofs.taken.entry.Goals as goal

pub returns : goal.returns
returns c = record {
  few = omega (arith, c.in_ok-items.ensures.few, c.if-outputs.false);
  outputs = c.in_ok-items.ensures.each;
}
