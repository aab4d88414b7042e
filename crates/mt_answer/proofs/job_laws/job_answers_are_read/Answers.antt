use Rattle.mt_answer.proofs.JobsRead.{job_answers_read, job_refusals_read}
use Rattle.mt_answer.proofs.job_laws.job_answers_are_read.Goals as goal

pub returns : goal.returns
returns c = record { refusal = job_refusals_read; answer = job_answers_read }
