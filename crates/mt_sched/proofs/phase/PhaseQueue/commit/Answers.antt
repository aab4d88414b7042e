use Rattle.std.proofs.Common.{◌<◌, ◌==◌, not, sym, ap, subst, arith, ◌∙◌}
use Rattle.std.specs.Prelude.{All}
use Rattle.std.specs.List.{filter}
use Rattle.std.specs.BTreeMap.{is_at}
use Rattle.std.specs.Ordering.{nat_cmp}
use Rattle.std.proofs.lemmas.Map.Views.{All-remove_key}
use Rattle.mt_sched.specs.Plan.{PhasePlan, open_places}
use Rattle.mt_sched.specs.PlanSteps.{without_place}
use Rattle.mt_sched.proofs.Places.{off_end, off_passed, off_rest}
use Rattle.mt_sched.proofs.phase.PhaseQueue.commit.Goals as goal

pub invariant_of-self : goal.invariant_of-self
invariant_of-self c = record {
  rising = c.remove.ensures.ordered;
  below = subst (All (λ k. k < c.self.inside.rest)) (sym c.remove.ensures.keys) (All-remove_key (is_at (nat_cmp c.args.place)) (λ k. k < c.self.inside.rest) c.self.inside.passed.keys c.self.invariant.below);
  most = c.self.invariant.most;
}

pub returns-then-place-self-clause-ok : goal.returns-then-place-self-clause-ok
returns-then-place-self-clause-ok c =
    let q = c.self.inside in
    ap {B = PhasePlan} (λ l. record { phase = q.phase; kind = q.kind; places = q.places; todo = l })
    (ap (λ l. open_places l q.rest q.places) c.remove.ensures.keys ∙ off_passed q.passed.keys q.rest q.places c.args.place (omega arith) c.self.invariant.rising)
    ∙ ap (without_place c.args.place) c.self.view_is

pub returns-in_ok-pass-clause-ok : goal.returns-in_ok-pass-clause-ok
returns-in_ok-pass-clause-ok c =
    let q = c.self.inside in
    let k = c.args.place in
    let passed = c.pass.new.passed.keys in
    ap {B = PhasePlan} (λ l. record { phase = q.phase; kind = q.kind; places = q.places; todo = l })
    (off_rest passed k q.places (omega arith) (subst (λ r. All (λ x. x < r) passed) c.in_ok-pass.ensures.up_to c.in_ok-pass.ensures.below)
    ∙ ap (filter (λ x. not (x == k))) (ap (λ r. open_places passed r q.places) (sym c.in_ok-pass.ensures.up_to) ∙ c.in_ok-pass.ensures.same q.places (omega arith)))
    ∙ ap (without_place k) c.self.view_is

pub returns-else-place-self-2-clause-ok : goal.returns-else-place-self-2-clause-ok
returns-else-place-self-2-clause-ok c =
    let q = c.self.inside in
    sym c.self.view_is
    ∙ ap {B = PhasePlan} (λ l. record { phase = q.phase; kind = q.kind; places = q.places; todo = l }) (off_end q.passed.keys q.rest q.places c.args.place c.self.invariant.most (omega arith) c.self.invariant.below)
    ∙ ap (without_place c.args.place) c.self.view_is
