use Rattle.mt_snapshot.proofs.Listed.{states_listed}
use Rattle.mt_snapshot.proofs.laws.states_are_listed.Goals as goal

pub returns : goal.returns
returns c = states_listed
