use Rattle.mt_answer.proofs.JobsTold.{job_done_allowed, job_number_is}
use Rattle.mt_answer.proofs.job_laws.job_done_is_allowed.Goals as goal

pub returns : goal.returns
returns c = record { allowed = job_done_allowed; number = job_number_is }
