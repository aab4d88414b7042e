use Rattle.mt_sched.proofs.Changes.{plan_commit, plan_end, plan_lines, plan_of_new}
use Rattle.mt_sched.proofs.laws.plans_follow_jobs.Goals as goal

pub returns : goal.returns
returns c = record {
  new_job = plan_of_new;
  lines = plan_lines;
  end_of_input = plan_end;
  commit = plan_commit;
}
