use Rattle.std.proofs.Common.{◌+◌, ◌<◌, subst, sym}
use Rattle.mt_model.specs.State.{State}
use Rattle.mt_types.specs.declared.body.Body.{Body}
use Rattle.mt_types.specs.declared.limits.TheConstants.{MOST_COMMANDS}
use Rattle.jobs_rows.proofs.Stays.{not_refused, stays_made}
use Rattle.jobs_rows.proofs.account.Account.make.Goals as goal

pub invariant_of-account : goal.invariant_of-account
invariant_of-account c = stays_made c.self.inside.position c.self.inside.tree c.self.inside.jobs c.self.invariant (subst (λ (s : State Body). s.count < MOST_COMMANDS) (sym c.self.view_is) c.requires.room) c.make_job.new.tree c.make_job.new.self c.args.document (1000 + c.self.inside.position) c.requires.document (not_refused _ (sym c.in-Ok.ensures)) c.in_ok-make_job-in-Ok.ensures

pub make_job-requires-clause-rows : goal.make_job-requires-clause-rows
make_job-requires-clause-rows c = c.self.invariant.rows

pub make_job-requires-clause-jobs : goal.make_job-requires-clause-jobs
make_job-requires-clause-jobs c = c.self.invariant.jobs
