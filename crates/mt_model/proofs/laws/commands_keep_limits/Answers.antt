use Rattle.mt_model.proofs.Within.{first_within, keeps_limits}
use Rattle.mt_model.proofs.laws.commands_keep_limits.Goals as goal

pub returns : goal.returns
returns c = record { first = first_within; step = keeps_limits }
