use Rattle.mt_model.proofs.Agree.{state-agree}
use Rattle.mt_model.proofs.laws.states_agree.Goals as goal

pub returns : goal.returns
returns c = state-agree
