use Rattle.std.proofs.Common.{◌≡◌, ℕ, ◌<◌, ◌≤◌, ◌-◌}
use Rattle.std.specs.Prelude.{All}
use Rattle.std.specs.List.Sorted.{IsStrictlySortedBy}
use Rattle.std.specs.Ordering.{nat_cmp}
use Rattle.mt_sched.specs.Plan.{open_places}
use Rattle.mt_sched.proofs.phase.pass.Given as goal

abbrev pub invariant-places : goal.invariant-places
invariant-places l = record {
  order : l.rest ≤ l.place;
  rising : IsStrictlySortedBy nat_cmp l.passed.keys;
  below : All (λ k. k < l.rest) l.passed.keys;
  same : (places : ℕ) → l.place ≤ places → open_places l.passed.keys l.rest places ≡ open_places l.fn.passed.keys l.fn.rest places;
}

abbrev pub decreases-places : goal.decreases-places
decreases-places l = l.place - l.rest
