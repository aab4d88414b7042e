use Rattle.std.proofs.Common.{◌+◌, ◌<◌, subst, sym}
use Rattle.mt_model.specs.State.{State}
use Rattle.mt_types.specs.declared.body.Body.{Body}
use Rattle.mt_types.specs.declared.limits.TheConstants.{MOST_COMMANDS}
use Rattle.jobs_rows.proofs.Stays.{all_documents, not_refused, stays_ended}
use Rattle.jobs_rows.proofs.account.Account.end.Goals as goal

pub invariant_of-account : goal.invariant_of-account
invariant_of-account c = stays_ended c.self.inside.position c.self.inside.tree c.self.inside.jobs c.self.invariant (subst (λ (s : State Body). s.count < MOST_COMMANDS) (sym c.self.view_is) c.requires) c.self.inside.tree c.end_input.new.self c.args.job (1000 + c.self.inside.position) (not_refused _ (sym c.in-Ok.ensures)) (c.in_ok-end_input-in-Ok.ensures c.self.inside.position (1000 + c.self.inside.position) c.self.inside.tree)

pub end_input-requires-clause-documents : goal.end_input-requires-clause-documents
end_input-requires-clause-documents c = all_documents c.self.inside.position c.self.inside.tree c.self.inside.jobs c.self.invariant (subst (λ (s : State Body). s.count < MOST_COMMANDS) (sym c.self.view_is) c.requires)
