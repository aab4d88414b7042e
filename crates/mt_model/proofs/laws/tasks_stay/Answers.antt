use Rattle.mt_model.proofs.TasksStay as law
use Rattle.mt_model.proofs.laws.tasks_stay.Goals as goal

pub returns : goal.returns
returns c = law.tasks_stay
