-- The lemma holds over any body.
use Rattle.mt_sched.proofs.Ready.{ready_tasks_are_apart}
use Rattle.mt_sched.proofs.laws.ready_tasks_are_apart.Goals as goal

pub returns-clause-references : goal.returns-clause-references
returns-clause-references c = ready_tasks_are_apart

pub returns-clause-bytes : goal.returns-clause-bytes
returns-clause-bytes c = ready_tasks_are_apart
