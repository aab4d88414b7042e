use Rattle.std.proofs.Common.{◌≡◌, Some, sym, ap, ◌∙◌}
use Rattle.std.specs.Option.{option_copied}
use Rattle.mt_model.specs.State.{job_at}
use Rattle.jobs_rows.proofs.Sizes.{item_there, ready_is_task, ready_there, size_is}
use Rattle.jobs_rows.proofs.orders.put_ready.Goals as goal

pub order_of-requires-clause-task : goal.order_of-requires-clause-task
order_of-requires-clause-task c =
    let there : job_at c.args.jobs.now c.args.task.job ≡ Some c.in-Some.job.now = sym c.get.ensures ∙ ap option_copied c.in-Some.is in
    ready_is_task c.in-Some.job.now c.args.task.phase c.args.task.place (ready_there c.args.jobs.now c.args.task c.in-Some.job.now there c.requires)

pub order_of-requires-clause-item : goal.order_of-requires-clause-item
order_of-requires-clause-item c =
    let there : job_at c.args.jobs.now c.args.task.job ≡ Some c.in-Some.job.now = sym c.get.ensures ∙ ap option_copied c.in-Some.is in
    c.item.ensures ∙ item_there c.args.jobs.now c.args.task c.in-Some.job.now there (ready_there c.args.jobs.now c.args.task c.in-Some.job.now there c.requires)

pub order_of-requires-clause-input : goal.order_of-requires-clause-input
order_of-requires-clause-input c =
    let there : job_at c.args.jobs.now c.args.task.job ≡ Some c.in-Some.job.now = sym c.get.ensures ∙ ap option_copied c.in-Some.is in
    size_is c.args.jobs.now c.args.task c.in-Some.job.now c.in_ok-input.input there c.in_ok-input.ensures
