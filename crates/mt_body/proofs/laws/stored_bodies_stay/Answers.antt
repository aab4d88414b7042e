use Rattle.mt_body.proofs.Keeping.{keeps}
use Rattle.mt_body.proofs.laws.stored_bodies_stay.Goals as goal

pub returns : goal.returns
returns c = keeps
