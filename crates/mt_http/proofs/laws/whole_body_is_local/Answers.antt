use Rattle.mt_http.proofs.LocalBodies.{whole_is_local}
use Rattle.mt_http.proofs.laws.whole_body_is_local.Goals as goal

pub returns : goal.returns
returns c = whole_is_local
