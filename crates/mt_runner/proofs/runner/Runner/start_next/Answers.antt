use Rattle.std.proofs.Common.{◌≡◌, ◌∙◌, ◌∷◌, [], ◌++◌, List, ℕ, ap, sym, subst, refl, arith, None, Some, map, false, Option}
use Rattle.mt_types.specs.declared.job.Task.{Task}
use Rattle.mt_sched.specs.Plan.{has_task}
use Rattle.mt_tasks.specs.Launching.{Comes}
use Rattle.mt_tasks.specs.Right.{IsRightNow}
use Rattle.mt_runner.specs.Attempts.{RunnerState, number_of, task_in}
use Rattle.mt_runner.specs.declared.runner.Started.{Started}
use Rattle.mt_runner.proofs.Fills.{begins_one, fresh_ticket, live_none, next_is, stopped}
use Rattle.mt_runner.proofs.Tasks.{next_new}
use Rattle.mt_runner.proofs.runner.Runner.start_next.Goals as goal

pub returns-in_default-clause-begins : goal.returns-in_default-clause-begins
returns-in_default-clause-begins g c =
    live_none c.args.engine.now.state _ _ _ c.args.engine.now (g.D.Disk.faults c.args.disk.now) c.requires.paired (ap (λ (r : RunnerState). r.kept) c.next_task.ensures.same)
    (next_is _ _ c.args.engine.now.state None c.requires.paired c.in_default.ensures.next)

pub launch-requires-clause-ready : goal.launch-requires-clause-ready
launch-requires-clause-ready g c = c.in-Some.ensures.ready

pub keep-requires-clause-new_task : goal.keep-requires-clause-new_task
keep-requires-clause-new_task g c =
    ap (λ (r : RunnerState). has_task (map task_in r.kept) c.in-Some.task) c.next_task.ensures.same ∙ next_new _ _ c.in-Some.task (sym c.in-Some.ensures.next)

pub keep-requires-clause-fresh : goal.keep-requires-clause-fresh
keep-requires-clause-fresh g c =
    fresh_ticket _ _ c.in-Began.ticket.number (ap (λ (r : RunnerState). map number_of r.kept) c.next_task.ensures.same ∙ c.requires.paired) c.in-Began.ensures.launches.fresh

pub returns-in-Began-clause-begins : goal.returns-in-Began-clause-begins
returns-in-Began-clause-begins g c =
    let login : c.as_str.result.now ≡ c.args.self.now.login = c.as_str.ensures ∙ (ap (λ (r : RunnerState). r.login) c.self.view_is ∙ ap (λ (r : RunnerState). r.login) c.next_task.ensures.same) in
    let p = g.P.Spawner in
    begins_one _ c.args.engine.now.state _ _ _ _ c.args.engine.now (g.D.Disk.faults c.args.disk.now) _ c.in-Began.ticket c.in-Some.task c.requires.paired
    (next_is _ _ c.args.engine.now.state (Some c.in-Some.task) c.requires.paired c.in-Some.ensures.next)
    (subst (λ (l : List ℕ). Comes (IsRightNow l (p.gives (p.rule c.args.spawner.now)) (p.may (p.rule c.args.spawner.now)) (g.D.Disk.seen c.args.disk.now) c.args.engine.now c.in-Some.task) (p.seen c.args.spawner.now) c.in-Began.ticket.number (p.seen c.launch.new.spawner))
    login c.in-Began.ensures.launches)
    (c.keep.ensures.kept ∙ ap (λ (r : RunnerState). r.kept ++ record { ticket = c.in-Began.ticket; task = c.in-Some.task } ∷ []) c.next_task.ensures.same)

pub returns-in-Failed-clause-begins : goal.returns-in-Failed-clause-begins
returns-in-Failed-clause-begins g c =
    let l = c.in-Failed.ensures.launches in
    (stopped c.args.engine.now.state _ _ _ _ c.args.engine.now (g.D.Disk.faults c.args.disk.now) _ c.in-Some.task c.requires.paired (next_is _ _ c.args.engine.now.state (Some c.in-Some.task) c.requires.paired c.in-Some.ensures.next) (ap (λ (r : RunnerState). r.kept) c.next_task.ensures.same) l.0, l.1)

pub returns-in-InputFailed-clause-begins : goal.returns-in-InputFailed-clause-begins
returns-in-InputFailed-clause-begins g c =
    let l = c.in-InputFailed.ensures.launches in
    (stopped c.args.engine.now.state _ _ _ _ c.args.engine.now (g.D.Disk.faults c.args.disk.now) _ c.in-Some.task c.requires.paired (next_is _ _ c.args.engine.now.state (Some c.in-Some.task) c.requires.paired c.in-Some.ensures.next) (ap (λ (r : RunnerState). r.kept) c.next_task.ensures.same) l.0, l.1, c.in-InputFailed.ensures.input refl)

pub returns-in-Memory-clause-begins : goal.returns-in-Memory-clause-begins
returns-in-Memory-clause-begins g c =
    let l = c.in-Memory.ensures.launches in
    (stopped c.args.engine.now.state _ _ _ _ c.args.engine.now (g.D.Disk.faults c.args.disk.now) _ c.in-Some.task c.requires.paired (next_is _ _ c.args.engine.now.state (Some c.in-Some.task) c.requires.paired c.in-Some.ensures.next) (ap (λ (r : RunnerState). r.kept) c.next_task.ensures.same) l.0, l.1)
