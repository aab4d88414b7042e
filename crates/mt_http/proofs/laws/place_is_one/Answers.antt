use Rattle.mt_http.proofs.Places.{place_one}
use Rattle.mt_http.proofs.laws.place_is_one.Goals as goal

pub returns : goal.returns
returns c = place_one
