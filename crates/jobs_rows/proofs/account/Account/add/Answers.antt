use Rattle.std.proofs.Common.{◌+◌, ◌<◌, subst, sym}
use Rattle.mt_model.specs.State.{State}
use Rattle.mt_types.specs.declared.body.Body.{Body}
use Rattle.mt_types.specs.declared.limits.TheConstants.{MOST_COMMANDS}
use Rattle.jobs_rows.proofs.Stays.{all_sound, not_refused, stays_added}
use Rattle.jobs_rows.proofs.account.Account.add.Goals as goal

pub invariant_of-account : goal.invariant_of-account
invariant_of-account c = stays_added c.self.inside.position c.self.inside.tree c.self.inside.jobs c.self.invariant (subst (λ (s : State Body). s.count < MOST_COMMANDS) (sym c.self.view_is) c.requires.room) c.self.inside.tree c.add_inputs.new.self c.args.job c.args.lines.now (1000 + c.self.inside.position) c.requires.lines (not_refused _ (sym c.in-Ok.ensures)) (c.in_ok-add_inputs-in-Ok.ensures c.self.inside.position (1000 + c.self.inside.position))

pub add_inputs-requires-clause-sound : goal.add_inputs-requires-clause-sound
add_inputs-requires-clause-sound c = all_sound c.self.inside.position c.self.inside.tree c.self.inside.jobs c.self.invariant (subst (λ (s : State Body). s.count < MOST_COMMANDS) (sym c.self.view_is) c.requires.room)
