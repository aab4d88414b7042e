use Rattle.std.proofs.Common.{◌≡◌, ◌<◌, None, subst, sym}
use Rattle.std.specs.Prelude.{OnOk}
use Rattle.mt_jobs.specs.Shown.{state_of}
use Rattle.mt_model.specs.CommandStep.{allowed, step}
use Rattle.mt_model.specs.State.{State}
use Rattle.mt_types.specs.declared.body.Body.{Body}
use Rattle.mt_types.specs.declared.limits.TheConstants.{MOST_COMMANDS}
use Rattle.mt_account.proofs.Commands.{size_of}
use Rattle.mt_account.proofs.account.Account.change_jobs.Goals as goal

pub take_on_jobs-requires-clause-few : goal.take_on_jobs-requires-clause-few
take_on_jobs-requires-clause-few c = subst (λ (s : State Body). s.count < MOST_COMMANDS) (sym c.self.view_is) c.requires.few

pub take_on_jobs-requires-clause-allowed : goal.take_on_jobs-requires-clause-allowed
take_on_jobs-requires-clause-allowed c = subst (λ (s : State Body). allowed size_of s c.args.command ≡ None) (sym c.self.view_is) c.requires.allowed

pub invariant_of-self : goal.invariant_of-self
invariant_of-self c = c.take_on_jobs.ensures.kept

pub returns-clause-ok : goal.returns-clause-ok
returns-clause-ok c =
    let new = c.take_on_jobs.new in
    subst (λ (s : State Body). OnOk c.take_on_jobs.result (state_of new.count new.tree new.jobs ≡ step s c.args.command)) c.self.view_is c.take_on_jobs.ensures.ok
