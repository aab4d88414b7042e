use Rattle.std.proofs.Common.{inr}
use Rattle.mt_adapters.proofs.Heads.{found_there}
use Rattle.mt_adapters.proofs.whole.is_whole.Goals as goal

pub returns-in-None-clause-head : goal.returns-in-None-clause-head
returns-in-None-clause-head c some = inr (found_there c.args.bytes.now c.head_len.result c.in-Some.head c.head_len.ensures c.in-Some.is)

pub returns-then-body-head-clause-head : goal.returns-then-body-head-clause-head
returns-then-body-head-clause-head c some = inr (found_there c.args.bytes.now c.head_len.result c.in-Some.head c.head_len.ensures c.in-Some.is)

pub returns-else-body-head-clause-head : goal.returns-else-body-head-clause-head
returns-else-body-head-clause-head c some = inr (found_there c.args.bytes.now c.head_len.result c.in-Some.head c.head_len.ensures c.in-Some.is)
