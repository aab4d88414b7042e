use Rattle.std.proofs.Common.{◌+◌, ◌<◌, subst, sym}
use Rattle.mt_model.specs.State.{State}
use Rattle.mt_types.specs.declared.body.Body.{Body}
use Rattle.mt_types.specs.declared.limits.TheConstants.{MOST_COMMANDS}
use Rattle.jobs_rows.proofs.Stays.{not_refused, stays_committed}
use Rattle.jobs_rows.proofs.account.Account.commit.Goals as goal

pub invariant_of-account : goal.invariant_of-account
invariant_of-account c = stays_committed c.self.inside.position c.self.inside.tree c.self.inside.jobs c.self.invariant (subst (λ (s : State Body). s.count < MOST_COMMANDS) (sym c.self.view_is) c.requires.room) c.commit.new.tree c.commit.new.self c.args.task.now.job c.args.task.now.phase c.args.task.now.place c.args.fate.now (1000 + c.self.inside.position) c.requires.fate (not_refused _ (sym c.in-Ok.ensures)) c.in_ok-commit-in-Ok.ensures

pub commit-requires-clause-rows : goal.commit-requires-clause-rows
commit-requires-clause-rows c = c.self.invariant.rows

pub commit-requires-clause-jobs : goal.commit-requires-clause-jobs
commit-requires-clause-jobs c = c.self.invariant.jobs
