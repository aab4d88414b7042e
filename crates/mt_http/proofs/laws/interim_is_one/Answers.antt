use Rattle.mt_http.proofs.MessageLaws.{interim_one}
use Rattle.mt_http.proofs.laws.interim_is_one.Goals as goal

pub returns : goal.returns
returns c = interim_one
