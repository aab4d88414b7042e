use Rattle.std.proofs.Common.{arith}
use Rattle.mt_snapshot.proofs.Whole.{is_found, is_none, is_only}
use Rattle.mt_snapshot.proofs.reading.read_record.Goals as goal

pub returns-clause-found : goal.returns-clause-found
returns-clause-found c = is_found c.args.bytes.now c.whole.result (λ i. omega (arith, c.type_inv.bytes i)) c.whole.ensures

pub returns-clause-only : goal.returns-clause-only
returns-clause-only c = is_only c.args.bytes.now c.whole.result c.whole.ensures

pub returns-clause-none : goal.returns-clause-none
returns-clause-none c = is_none c.args.bytes.now c.whole.result c.whole.ensures
