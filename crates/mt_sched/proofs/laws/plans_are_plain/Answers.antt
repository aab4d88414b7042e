use Rattle.mt_sched.proofs.Plain.{all_ready_plain, committed_plain, complete_plain, first_waiting_plain, one_ready_plain, ready_plain, task_plain, waits_plain}
use Rattle.mt_sched.proofs.laws.plans_are_plain.Goals as goal

pub returns : goal.returns
returns c = record {
  ready = ready_plain;
  waits = waits_plain;
  complete = complete_plain;
  task = task_plain;
  committed = committed_plain;
  one_ready = one_ready_plain;
  all_ready = all_ready_plain;
  first_waiting = first_waiting_plain;
}
