use Rattle.mt_answer.proofs.JobExits.{job_added_read, job_full_read, job_refused_read, job_shown_read}
use Rattle.mt_answer.proofs.job_laws.job_done_is_read.Goals as goal

pub returns : goal.returns
returns c = record {
  refused = job_refused_read;
  shown = job_shown_read;
  added = λ read keeps login limit s used head request bytes moment archive command brings none is. job_added_read read keeps login limit s used head request bytes moment archive brings none command is;
  full = job_full_read;
}
