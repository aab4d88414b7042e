use Rattle.mt_model.proofs.LimitsRead as law
use Rattle.mt_model.proofs.laws.limits_are_read.Goals as goal

pub returns : goal.returns
returns c = law.limits_are_read
