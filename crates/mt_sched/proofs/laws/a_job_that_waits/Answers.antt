-- The lemma holds over any body.
use Rattle.mt_sched.proofs.Ready.{a_job_that_waits}
use Rattle.mt_sched.proofs.laws.a_job_that_waits.Goals as goal

pub returns-clause-references : goal.returns-clause-references
returns-clause-references c = a_job_that_waits

pub returns-clause-bytes : goal.returns-clause-bytes
returns-clause-bytes c = a_job_that_waits
