use Rattle.std.proofs.Common.{◌+◌, ◌<◌, subst, sym}
use Rattle.mt_model.specs.State.{State}
use Rattle.mt_types.specs.declared.body.Body.{Body}
use Rattle.mt_types.specs.declared.limits.TheConstants.{MOST_COMMANDS}
use Rattle.jobs_rows.proofs.Stays.{not_refused, stays_closed}
use Rattle.jobs_rows.proofs.account.Account.close.Goals as goal

pub invariant_of-account : goal.invariant_of-account
invariant_of-account c = stays_closed c.self.inside.position c.self.inside.tree c.self.inside.jobs c.self.invariant (subst (λ (s : State Body). s.count < MOST_COMMANDS) (sym c.self.view_is) c.requires) c.close.new.tree c.close.new.self c.args.job c.args.cancelled _ (1000 + c.self.inside.position) (not_refused _ (sym c.in-Ok.ensures)) c.in_ok-close-in-Ok.ensures.ok

pub close-requires-clause-rows : goal.close-requires-clause-rows
close-requires-clause-rows c = c.self.invariant.rows

pub close-requires-clause-jobs : goal.close-requires-clause-jobs
close-requires-clause-jobs c = c.self.invariant.jobs
