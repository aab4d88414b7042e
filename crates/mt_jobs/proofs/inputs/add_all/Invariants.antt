use Rattle.std.proofs.Common.{◌≡◌, drop}
use Rattle.mt_model.specs.JobSteps.{with_lines}
use Rattle.mt_sched.specs.PlanOfJob.{inputs_in}
use Rattle.mt_sched.specs.PlanSteps.{grown, with_plan}
use Rattle.mt_jobs.proofs.inputs.add_all.Given as goal

abbrev pub invariant-loop-line : goal.invariant-loop-line
invariant-loop-line g l = record {
  number : l.job.number ≡ l.fn.job.number;
  job : with_lines l.tree (drop l.line-index l.lines) l.job ≡ with_lines l.tree l.lines l.fn.job;
  plans : with_plan l.sched l.fn.job.number (λ plan. grown plan 0 (inputs_in l.tree (drop l.line-index l.lines))) ≡ with_plan l.fn.sched l.fn.job.number (λ plan. grown plan 0 (inputs_in l.tree l.lines));
}
