use Rattle.std.proofs.Common.{◌≡◌, rules, List, Option, Some, None, option_copied, sym, ap, ◌∙◌}
use Rattle.mt_model.specs.State.{job_at}
use Rattle.mt_types.specs.declared.body.Body.{Body}
use Rattle.mt_types.specs.declared.job.Job.{Job}
use Rattle.mt_tasks.proofs.Passing.{assets_is, assets_not, if_none}
use Rattle.mt_tasks.proofs.bodies.assets_of.Goals as goal

pub returns-in_err-bodies-clause-none : goal.returns-in_err-bodies-clause-none
returns-in_err-bodies-clause-none c =
    if_none _ c.from_residual-in_err-bodies.result (assets_not c.args.engine.now.state.jobs c.args.task.now c.in_ok-job.job.now c.in_ok-phase.phase.now (search rules) (sym c.phase_at.ensures ∙ ap option_copied c.in_ok-phase.was) (sym c.held_by.ensures ∙ ap option_copied c.in_err-bodies.was))

pub returns-clause-some : goal.returns-clause-some
returns-clause-some c =
    let held = sym c.held_by.ensures ∙ ap option_copied c.in_ok-bodies.was in
    rw (assets_is c.args.engine.now.state.jobs c.args.task.now c.in_ok-job.job.now c.in_ok-phase.phase.now c.in_ok-bodies.bodies.now (search rules) (sym c.phase_at.ensures ∙ ap option_copied c.in_ok-phase.was) held) (search rules)
