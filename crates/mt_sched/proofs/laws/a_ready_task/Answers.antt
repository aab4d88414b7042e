-- The lemma holds over any body.
use Rattle.mt_sched.proofs.Ready.{a_ready_task}
use Rattle.mt_sched.proofs.laws.a_ready_task.Goals as goal

pub returns-clause-references : goal.returns-clause-references
returns-clause-references c = a_ready_task

pub returns-clause-bytes : goal.returns-clause-bytes
returns-clause-bytes c = a_ready_task
