use Rattle.std.proofs.Common.{◌≡◌, ◌<◌, None, subst, sym, ap, ◌∙◌}
use Rattle.mt_model.specs.CommandStep.{allowed, step}
use Rattle.mt_model.specs.State.{State}
use Rattle.mt_types.specs.declared.body.Body.{Body}
use Rattle.mt_types.specs.declared.limits.TheConstants.{MOST_COMMANDS}
use Rattle.mt_account.proofs.Commands.{keeps_step, rows_alone, size_of, steps}
use Rattle.mt_account.proofs.account.Account.change_rows.Goals as goal

pub change-requires-clause-allowed : goal.change-requires-clause-allowed
change-requires-clause-allowed c =
    let was = c.self.inside in
    sym (rows_alone was.count was.tree was.jobs c.args.command c.requires.kind) ∙ subst (λ (s : State Body). allowed size_of s c.args.command ≡ None) (sym c.self.view_is) c.requires.allowed

pub invariant_of-self-2 : goal.invariant_of-self-2
invariant_of-self-2 c =
    let was = c.self.inside in
    let few = subst (λ (s : State Body). s.count < MOST_COMMANDS) (sym c.self.view_is) c.requires.few in
    let is = subst (λ (s : State Body). allowed size_of s c.args.command ≡ None) (sym c.self.view_is) c.requires.allowed in
    keeps_step was.count was.tree c.change.new.tree was.jobs was.jobs was.spare c.args.command c.requires.spelled few is c.self.invariant
    (steps was.count was.tree c.change.new.tree was.jobs was.jobs c.args.command (c.in_ok-change.ensures.ok was.jobs))

pub returns-clause-ok : goal.returns-clause-ok
returns-clause-ok c =
    let was = c.self.inside in
    steps was.count was.tree c.change.new.tree was.jobs was.jobs c.args.command (c.in_ok-change.ensures.ok was.jobs) ∙ ap (λ (s : State Body). step s c.args.command) c.self.view_is
