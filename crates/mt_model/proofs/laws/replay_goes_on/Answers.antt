use Rattle.mt_model.proofs.Replays.{replay_on}
use Rattle.mt_model.proofs.laws.replay_goes_on.Goals as goal

pub returns : goal.returns
returns c = replay_on
