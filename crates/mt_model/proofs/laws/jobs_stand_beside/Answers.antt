use Rattle.mt_model.proofs.Beside.{beside_jobs}
use Rattle.mt_model.proofs.laws.jobs_stand_beside.Goals as goal

pub returns : goal.returns
returns c = beside_jobs
