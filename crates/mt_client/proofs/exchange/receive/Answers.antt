use Rattle.mt_client.proofs.Receiving.{reply_cut, reply_fails, reply_whole}
use Rattle.mt_client.proofs.exchange.receive.Goals as goal

pub returns-in-Err-clause-read : goal.returns-in-Err-clause-read
returns-in-Err-clause-read g c = reply_fails c.args.limit _ _ c.in-Err.end _ _ c.in-Err.ensures.read

pub returns-in-Ok-read_reply_body-clause-read : goal.returns-in-Ok-read_reply_body-clause-read
returns-in-Ok-read_reply_body-clause-read g c =
    reply_whole c.args.limit _ _ c.in-Ok.lead _ _ c.in-Ok.ensures.read _ _ c.in-Ok-read_reply_body.body c.in-Ok-read_reply_body.ensures.read

pub returns-in-Err-read_reply_body-clause-read : goal.returns-in-Err-read_reply_body-clause-read
returns-in-Err-read_reply_body-clause-read g c =
    reply_cut c.args.limit _ _ c.in-Ok.lead _ _ c.in-Ok.ensures.read _ _ c.in-Err-read_reply_body.end c.in-Err-read_reply_body.ensures.read
