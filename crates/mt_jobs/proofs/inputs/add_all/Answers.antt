use Rattle.std.proofs.Common.{◌+◌, ◌<◌, [], ◌∷◌, drop, length, sym, ap, ◌∙◌, arith}
use Rattle.mt_model.specs.JobSteps.{with_line, with_lines}
use Rattle.mt_sched.specs.PlanOfJob.{inputs_in}
use Rattle.mt_sched.specs.PlanSteps.{grown, with_plan}
use Rattle.mt_sched.proofs.Phases.{drop_all, drop_step}
use Rattle.mt_jobs.proofs.Grown.{plans_lines, plans_none}
use Rattle.mt_jobs.proofs.Posted.{line_rest}
use Rattle.mt_jobs.proofs.Walks.{fold_on}
use Rattle.mt_jobs.proofs.inputs.add_all.Goals as goal

pub loop-line-preserved : goal.loop-line-preserved
loop-line-preserved g c =
    let rows = c.args.tree.now in
    let lines = c.args.lines.now in
    let i = c.loop-line.line-index in
    let line = c.line-item.result in
    let n = c.args.job.now.number in
    let less : i < length lines = omega arith in
    record {
      number = ap (λ j. j.number) c.in_ok-add_line.ensures.job ∙ (line_rest rows c.loop-line.job line).number ∙ c.loop-line.invariant.number;
      job = fold_on (with_line rows) lines i line c.loop-line.job c.add_line.new.job (with_lines rows lines c.args.job.now) less c.line-item.is c.in_ok-add_line.ensures.job c.loop-line.invariant.job;
      plans =
          ap (λ s. with_plan s n (λ plan. grown plan 0 (inputs_in rows (drop (i + 1) lines))))
          (c.in_ok-add_line.ensures.plans ∙ ap (λ k. with_plan c.loop-line.sched k (λ plan. grown plan 0 (inputs_in rows (line ∷ [])))) c.loop-line.invariant.number)
          ∙ plans_lines rows line (drop (i + 1) lines) c.loop-line.sched n
          ∙ ap (λ l. with_plan c.loop-line.sched n (λ plan. grown plan 0 (inputs_in rows l))) (sym (drop_step lines i line less c.line-item.is))
          ∙ c.loop-line.invariant.plans;
    }

pub returns-clause-plans : goal.returns-clause-plans
returns-clause-plans g c =
    let rows = c.args.tree.now in
    let n = c.args.job.now.number in
    sym (plans_none c.loop-line.sched n 0)
    ∙ ap (λ l. with_plan c.loop-line.sched n (λ plan. grown plan 0 (inputs_in rows l))) (sym (drop_all c.args.lines.now c.loop-line.line-index (omega arith)))
    ∙ c.loop-line.invariant.plans
