use Rattle.std.proofs.Common.{◌≡◌, List, Option, Some, sym, ap, ◌∙◌, arith, option_copied}
use Rattle.mt_model.specs.State.{job_at}
use Rattle.mt_types.specs.declared.body.Body.{Body}
use Rattle.mt_types.specs.declared.job.Job.{Job}
use Rattle.mt_tasks.proofs.Numbers.{number_small}
use Rattle.mt_tasks.proofs.launching.task_order.Goals as goal

pub order_of-requires-clause-number : goal.order_of-requires-clause-number
order_of-requires-clause-number c =
    let found : job_at c.args.engine.now.state.jobs c.args.task.now.job ≡ Some c.in-Some.job.now =
    ap (λ (js : List (Job Body)). job_at js c.args.task.now.job) (sym c.jobs-jobs.ensures.jobs) ∙ sym c.get.ensures ∙ ap option_copied c.in-Some.is in
    number_small c.args.engine.now.state c.args.task.now.job c.in-Some.job.now c.jobs-jobs.ensures.lawful c.jobs-jobs.ensures.limits (omega (arith, c.position.ensures.count, c.position.ensures.most)) found
