use Rattle.std.proofs.Common.{not, Some, None, ap, sym, ◌∙◌}
use Rattle.std.specs.List.{find}
use Rattle.mt_sched.specs.Plan.{has_task, task_at}
use Rattle.mt_sched.proofs.Places.{find_open}
use Rattle.mt_sched.proofs.phase.PhaseQueue.first_open.Goals as goal

pub returns-in-Some : goal.returns-in-Some
returns-in-Some c =
    let q = c.self.inside in
    find_open q.passed.keys q.rest q.places (λ k. not (has_task c.args.skip.now (task_at c.args.job q.phase k))) (Some c.in-Some.place) (sym c.in-Some.is ∙ c.first_passed.ensures)
    ∙ ap (λ p. find (λ k. not (has_task c.args.skip.now (task_at c.args.job p.phase k))) p.todo) c.self.view_is

pub returns-in-None : goal.returns-in-None
returns-in-None c =
    let q = c.self.inside in
    c.first_of_rest.ensures
    ∙ find_open q.passed.keys q.rest q.places (λ k. not (has_task c.args.skip.now (task_at c.args.job q.phase k))) None (sym c.in-None.is ∙ c.first_passed.ensures)
    ∙ ap (λ p. find (λ k. not (has_task c.args.skip.now (task_at c.args.job p.phase k))) p.todo) c.self.view_is
