use Rattle.std.proofs.Common.{refl}
use Rattle.mt_answer.proofs.PostedFits.{posted_within}
use Rattle.mt_answer.proofs.job_laws.posted_is_within.Goals as goal

pub returns : goal.returns
returns c = record { within = posted_within; lines = refl }
