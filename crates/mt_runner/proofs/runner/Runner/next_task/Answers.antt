use Rattle.std.proofs.Common.{◌≡◌, ◌∙◌, List, ap, map, Option}
use Rattle.std.specs.List.{flat_map}
use Rattle.mt_types.specs.declared.body.Body.{Body}
use Rattle.mt_types.specs.declared.job.Job.{Job}
use Rattle.mt_types.specs.declared.job.Task.{Task}
use Rattle.mt_model.specs.Tasks.{ready}
use Rattle.mt_sched.specs.Plan.{first_but}
use Rattle.mt_tasks.specs.Standing.{ready_tasks}
use Rattle.mt_runner.specs.Attempts.{RunnerState, task_in}
use Rattle.mt_runner.proofs.Fills.{each_ready}
use Rattle.mt_runner.proofs.runner.Runner.next_task.Goals as goal

pub returns-clause-next : goal.returns-clause-next
returns-clause-next c =
    let busy : c.as_slice-2.result.now ≡ map task_in c.args.self.now.kept =
    c.as_slice-2.ensures.value ∙ (c.list_tasks.ensures.tasks ∙ ap (map task_in) (c.as_slice.ensures.value ∙ ap (λ (r : RunnerState). r.kept) c.self.view_is)) in
    c.next_ready.ensures ∙ (ap (λ (js : List (Job Body)). first_but c.as_slice-2.result.now (flat_map ready js)) c.jobs.ensures.jobs ∙ ap (λ (ts : List Task). first_but ts (ready_tasks c.args.engine.now.state)) busy)

pub returns-clause-ready : goal.returns-clause-ready
returns-clause-ready c = each_ready c.args.engine.now.state _ _ c.next_ready.result c.jobs.ensures.lawful c.jobs.ensures.jobs c.next_ready.ensures
