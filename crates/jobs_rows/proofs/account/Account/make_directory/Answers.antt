use Rattle.std.proofs.Common.{◌+◌, ◌<◌, subst, sym}
use Rattle.mt_model.specs.State.{State}
use Rattle.mt_types.specs.declared.body.Body.{Body}
use Rattle.mt_types.specs.declared.limits.TheConstants.{MOST_COMMANDS}
use Rattle.jobs_rows.proofs.Stays.{not_refused, stays_directory}
use Rattle.jobs_rows.proofs.account.Account.make_directory.Goals as goal

pub invariant_of-account : goal.invariant_of-account
invariant_of-account c = stays_directory c.self.inside.position c.self.inside.tree c.self.inside.jobs c.self.invariant (subst (λ (s : State Body). s.count < MOST_COMMANDS) (sym c.self.view_is) c.requires) c.make_directory.new.self c.args.path (1000 + c.self.inside.position) c.key-key.ensures.path (not_refused _ (sym c.in-Ok.ensures)) c.in_ok-make_directory-in-Ok.ensures.ok
