use Rattle.mt_response.proofs.Leads.{head_one, reply_one}
use Rattle.mt_response.proofs.laws.reply_is_one.Goals as goal

pub returns-clause-head : goal.returns-clause-head
returns-clause-head c = head_one

pub returns-clause-reply : goal.returns-clause-reply
returns-clause-reply c = reply_one
