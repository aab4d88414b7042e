use Rattle.std.proofs.Common.{sym, ap, ◌∙◌}
use Rattle.std.specs.Prelude.{is_some}
use Rattle.std.proofs.lemmas.Result.{on_ok_weaker}
use Rattle.mt_sched.specs.PlanOfJob.{is_input}
use Rattle.mt_jobs.proofs.Grown.{plans_other}
use Rattle.mt_jobs.proofs.inputs.add_line.Goals as goal

pub returns-in-None-clause-plans : goal.returns-in-None-clause-plans
returns-in-None-clause-plans g c =
    on_ok_weaker c.add_missing.result
    (λ added. plans_other c.args.tree.now c.args.line.now c.args.sched.now c.args.job.now.number (ap (is_input c.args.tree.now) c.in-Named.is ∙ ap is_some (sym c.in-None.ensures)))
    c.add_missing.ensures

pub returns-in-Other-clause-plans : goal.returns-in-Other-clause-plans
returns-in-Other-clause-plans g c =
    on_ok_weaker c.add_missing-in-Other.result
    (λ added. plans_other c.args.tree.now c.args.line.now c.args.sched.now c.args.job.now.number (ap (is_input c.args.tree.now) c.in-Other.is))
    c.add_missing-in-Other.ensures
