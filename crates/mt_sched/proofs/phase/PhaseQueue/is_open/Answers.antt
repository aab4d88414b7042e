use Rattle.std.proofs.Common.{ap, arith, ◌∙◌}
use Rattle.mt_sched.specs.Plan.{is_open_place}
use Rattle.mt_sched.proofs.Orders.{contains_open}
use Rattle.mt_sched.proofs.Places.{open_before, open_behind}
use Rattle.mt_sched.proofs.phase.PhaseQueue.is_open.Goals as goal

pub returns-then-place-self : goal.returns-then-place-self
returns-then-place-self c =
    let q = c.self.inside in
    c.contains.ensures ∙ contains_open c.args.place q.passed.keys ∙ open_before q.passed.keys q.rest q.places c.args.place (omega arith) ∙ ap (λ p. is_open_place p c.args.place) c.self.view_is

pub returns-else-place-self : goal.returns-else-place-self
returns-else-place-self c =
    let q = c.self.inside in
    open_behind q.passed.keys q.rest q.places c.args.place (omega arith) c.self.invariant.most c.self.invariant.below ∙ ap (λ p. is_open_place p c.args.place) c.self.view_is
