use Rattle.std.proofs.Common.{◌≡◌, List, length, ap, ◌∙◌, arith}
use Rattle.std.specs.Option.{option_map_or}
use Rattle.mt_feeds.specs.Reading.{task_items}
use Rattle.mt_model.specs.State.{job_at}
use Rattle.mt_types.specs.declared.body.Body.{Body}
use Rattle.mt_types.specs.declared.job.Job.{Job}
use Rattle.mt_tasks.proofs.Passing.{bodies_long}
use Rattle.mt_tasks.proofs.bodies.body_count.Goals as goal

pub returns : goal.returns
returns c =
    let t = c.args.task.now in
    let items = c.read_count-items.ensures ∙ ap (λ (js : List (Job Body)). option_map_or (λ j. length (task_items t.phase t.place j)) (job_at js t.job) 0) c.jobs.ensures.jobs in
    omega (arith, bodies_long c.args.engine.now.state.jobs t, c.in_ok-count.ensures, items, c.asset_count-assets.ensures)
