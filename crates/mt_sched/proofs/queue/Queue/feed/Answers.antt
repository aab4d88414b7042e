use Rattle.std.proofs.Common.{sym, ap, ◌∙◌, arith}
use Rattle.mt_sched.specs.Plan.{Plan}
use Rattle.mt_sched.specs.PlanSteps.{fed, grown}
use Rattle.mt_sched.proofs.Phases.{fed_number, no_phase}
use Rattle.mt_sched.proofs.Writes.{set_is, set_numbered}
use Rattle.mt_sched.proofs.queue.Queue.feed.Goals as goal

pub invariant_of-self : goal.invariant_of-self
invariant_of-self c = set_numbered (fed c.args.count) (fed_number c.args.count) c.args.phase c.self.inside.phases.items c.index_mut.result.now c.feed.new.self c.self.invariant (omega arith) c.index_mut.ensures.value c.in_ok-feed.ensures.ok

pub returns-in_ok-feed-clause-ok : goal.returns-in_ok-feed-clause-ok
returns-in_ok-feed-clause-ok c =
    ap {B = Plan} (λ l. record { phases = l; ended = c.self.inside.ended })
    (set_is (fed c.args.count) c.args.phase c.self.inside.phases.items c.index_mut.result.now c.feed.new.self c.self.invariant (omega arith) c.index_mut.ensures.value c.in_ok-feed.ensures.ok)
    ∙ ap (λ q. grown q c.args.phase c.args.count) c.self.view_is

pub returns-else-index-len-clause-ok : goal.returns-else-index-len-clause-ok
returns-else-index-len-clause-ok c =
    sym c.self.view_is
    ∙ ap {B = Plan} (λ l. record { phases = l; ended = c.self.inside.ended }) (sym (no_phase c.args.phase (fed c.args.count) c.self.inside.phases.items c.self.invariant (omega arith)))
    ∙ ap (λ q. grown q c.args.phase c.args.count) c.self.view_is
