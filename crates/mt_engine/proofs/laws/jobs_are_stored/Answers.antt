use Rattle.mt_engine.proofs.Objects.{served_jobs}
use Rattle.mt_engine.proofs.laws.jobs_are_stored.Goals as goal

pub returns : goal.returns
returns c = served_jobs
