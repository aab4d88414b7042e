use Rattle.mt_answer.proofs.JobsTold.{outputs_told}
use Rattle.mt_answer.proofs.job_laws.outputs_are_told.Goals as goal

pub returns : goal.returns
returns c = outputs_told
