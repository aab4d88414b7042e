use Rattle.std.proofs.Common.{◌≡◌, ◌<◌, None, subst, sym, ap, ◌∙◌}
use Rattle.mt_jobs.specs.Shown.{state_of}
use Rattle.mt_model.specs.CommandStep.{allowed, step}
use Rattle.mt_model.specs.Rows.{Rows}
use Rattle.mt_model.specs.State.{State}
use Rattle.mt_types.specs.declared.body.Body.{Body}
use Rattle.mt_types.specs.declared.limits.TheConstants.{MOST_COMMANDS}
use Rattle.mt_account.specs.Kept.{Keeps}
use Rattle.mt_account.proofs.Commands.{keeps_step, none_answered, size_of, some_answered, steps}
use Rattle.mt_account.proofs.account.Account.change_rows_if_allowed.Goals as goal

pub invariant_of-self-in-Ok : goal.invariant_of-self-in-Ok
invariant_of-self-in-Ok c =
    let was = c.self.inside in
    let few = subst (λ (s : State Body). s.count < MOST_COMMANDS) (sym c.self.view_is) c.requires.few in
    let is : allowed size_of (state_of was.count was.tree was.jobs) c.args.command ≡ None = none_answered _ (sym c.in-Ok.is ∙ c.in_ok-change_if_allowed.ensures.answer was.jobs) in
    keeps_step was.count was.tree c.change_if_allowed.new.tree was.jobs was.jobs was.spare c.args.command c.requires.spelled few is c.self.invariant
    (steps was.count was.tree c.change_if_allowed.new.tree was.jobs was.jobs c.args.command (c.in_ok-change_if_allowed.ensures.ok was.jobs is))

pub invariant_of-self-in-Err : goal.invariant_of-self-in-Err
invariant_of-self-in-Err c =
    let was = c.self.inside in
    let same = c.in_ok-change_if_allowed.ensures.refused was.jobs (some_answered _ c.in-Err.refusal (sym c.in-Err.is ∙ c.in_ok-change_if_allowed.ensures.answer was.jobs)) in
    subst (λ (rows : Rows Body). Keeps was.count rows was.jobs was.spare) (sym same) c.self.invariant

pub returns-in-Ok-clause-ok : goal.returns-in-Ok-clause-ok
returns-in-Ok-clause-ok c = λ may.
    let was = c.self.inside in
    let is : allowed size_of (state_of was.count was.tree was.jobs) c.args.command ≡ None = none_answered _ (sym c.in-Ok.is ∙ c.in_ok-change_if_allowed.ensures.answer was.jobs) in
    steps was.count was.tree c.change_if_allowed.new.tree was.jobs was.jobs c.args.command (c.in_ok-change_if_allowed.ensures.ok was.jobs is)
    ∙ ap (λ (s : State Body). step s c.args.command) c.self.view_is
