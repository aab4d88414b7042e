use Rattle.mt_certline.proofs.WorkedOut.{worked}
use Rattle.mt_certline.proofs.laws.map_job_is_worked.Goals as goal

pub returns : goal.returns
returns c = worked
