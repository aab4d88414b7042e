use Rattle.std.proofs.Common.{sym, ap, ◌∙◌, arith}
use Rattle.mt_sched.specs.Plan.{Plan}
use Rattle.mt_sched.specs.PlanSteps.{committed_in, without_place}
use Rattle.mt_sched.proofs.Phases.{no_phase, without_number}
use Rattle.mt_sched.proofs.Writes.{set_is, set_numbered}
use Rattle.mt_sched.proofs.queue.Queue.commit.Goals as goal

pub invariant_of-self : goal.invariant_of-self
invariant_of-self c = set_numbered (without_place c.args.place) (without_number c.args.place) c.args.phase c.self.inside.phases.items c.index_mut.result.now c.commit.new.self c.self.invariant (omega arith) c.index_mut.ensures.value c.in_ok-commit.ensures.ok

pub returns-in_ok-commit-clause-ok : goal.returns-in_ok-commit-clause-ok
returns-in_ok-commit-clause-ok c =
    ap {B = Plan} (λ l. record { phases = l; ended = c.self.inside.ended })
    (set_is (without_place c.args.place) c.args.phase c.self.inside.phases.items c.index_mut.result.now c.commit.new.self c.self.invariant (omega arith) c.index_mut.ensures.value c.in_ok-commit.ensures.ok)
    ∙ ap (λ q. committed_in q c.args.phase c.args.place) c.self.view_is

pub returns-else-index-len-clause-ok : goal.returns-else-index-len-clause-ok
returns-else-index-len-clause-ok c =
    sym c.self.view_is
    ∙ ap {B = Plan} (λ l. record { phases = l; ended = c.self.inside.ended }) (sym (no_phase c.args.phase (without_place c.args.place) c.self.inside.phases.items c.self.invariant (omega arith)))
    ∙ ap (λ q. committed_in q c.args.phase c.args.place) c.self.view_is
