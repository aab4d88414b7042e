use Rattle.std.proofs.Common.{◌+◌, ◌<◌, ap, sym, subst, arith, ◌∙◌}
use Rattle.std.specs.Prelude.{All}
use Rattle.mt_sched.specs.Plan.{open_places}
use Rattle.mt_sched.proofs.Orders.{all_below_next, insert_last}
use Rattle.mt_sched.proofs.Places.{pass_one}
use Rattle.mt_sched.proofs.phase.pass.Goals as goal

pub places-preserved : goal.places-preserved
places-preserved c = record {
  order = omega arith;
  rising = c.in_ok-insert.ensures.ordered;
  below = subst (All (λ k. k < c.places.rest + 1)) (sym (c.in_ok-insert.ensures.keys ∙ insert_last c.places.passed.keys c.places.rest c.places.invariant.below))
      (all_below_next c.places.passed.keys c.places.rest c.places.invariant.below);
  same = λ places up_to.
      ap (λ l. open_places l (c.places.rest + 1) places) c.in_ok-insert.ensures.keys
      ∙ pass_one c.places.passed.keys c.places.rest places c.places.invariant.below (omega (arith, up_to))
      ∙ c.places.invariant.same places up_to;
}
