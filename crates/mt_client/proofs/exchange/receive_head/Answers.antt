use Rattle.std.proofs.Common.{sym}
use Rattle.mt_client.proofs.Receiving.{head_fails, head_told, head_untold}
use Rattle.mt_client.proofs.exchange.receive_head.Goals as goal

pub returns-in-Err-clause-read : goal.returns-in-Err-clause-read
returns-in-Err-clause-read g c = head_fails c.args.limit _ _ c.in-Err.end _ _ c.in-Err.ensures.read

pub returns-in-Some-clause-read : goal.returns-in-Some-clause-read
returns-in-Some-clause-read g c = head_told c.args.limit _ _ c.in-Ok.head c.in-Some.len _ _ c.in-Ok.ensures.read (sym c.in-Some.ensures.exact)

pub returns-in-None-clause-read : goal.returns-in-None-clause-read
returns-in-None-clause-read g c = head_untold c.args.limit _ _ c.in-Ok.head _ _ c.in-Ok.ensures.read (sym c.in-None.ensures.exact)
