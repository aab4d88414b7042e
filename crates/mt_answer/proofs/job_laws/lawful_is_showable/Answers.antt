use Rattle.mt_answer.proofs.JobsTold.{lawful_showable}
use Rattle.mt_answer.proofs.job_laws.lawful_is_showable.Goals as goal

pub returns : goal.returns
returns c = lawful_showable
