use Rattle.mt_lives.proofs.LifeWorked.{map_job_with_a_crash}
use Rattle.mt_lives.proofs.worked.map_job_with_a_crash.Goals as goal

pub returns : goal.returns
returns c = map_job_with_a_crash
