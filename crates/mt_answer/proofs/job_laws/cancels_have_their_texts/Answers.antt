use Rattle.mt_answer.proofs.JobsTold.{cancels_have_texts}
use Rattle.mt_answer.proofs.job_laws.cancels_have_their_texts.Goals as goal

pub returns : goal.returns
returns c = cancels_have_texts
