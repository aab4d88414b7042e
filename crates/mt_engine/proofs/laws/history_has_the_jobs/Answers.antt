use Rattle.mt_engine.proofs.Objects.{jobs_read}
use Rattle.mt_engine.proofs.laws.history_has_the_jobs.Goals as goal

pub returns : goal.returns
returns c = jobs_read
