use Rattle.mt_http.proofs.MessageLaws.{messages_one}
use Rattle.mt_http.proofs.laws.messages_are_one.Goals as goal

pub returns : goal.returns
returns c = messages_one
