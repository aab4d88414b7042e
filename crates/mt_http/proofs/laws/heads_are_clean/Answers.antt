use Rattle.mt_http.proofs.CleanHeads.{head_clean}
use Rattle.mt_http.proofs.laws.heads_are_clean.Goals as goal

pub returns : goal.returns
returns c = head_clean
