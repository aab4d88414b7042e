-- A write of a changed phase at its index.
use Rattle.std.proofs.Common.{◌≡◌, ℕ, ◌<◌, ◌==◌, cond, List, length, map, get_or, sym, ap, subst, ◌∙◌}
use Rattle.std.proofs.Math.ListN.{set}
use Rattle.mt_sched.specs.Plan.{AreNumbered, PhasePlan}
use Rattle.mt_sched.proofs.Phases.{set_phase, stays_numbered}

-- a write of the changed phase at its index changes the phase of that number, and keeps the numbers
pub set_is : (f : PhasePlan → PhasePlan) (k : ℕ) (qs : List PhasePlan) (q new : PhasePlan) → AreNumbered qs → k < length qs → q ≡ get_or qs k q → new ≡ f q → set qs k new ≡ map (λ q. cond (q.phase == k) (f q) q) qs
set_is f k qs q new are less is change = ap (set qs k) (change ∙ ap f is) ∙ set_phase k f q qs are less

pub set_numbered : (f : PhasePlan → PhasePlan) → ((q : PhasePlan) → (f q).phase ≡ q.phase) → (k : ℕ) (qs : List PhasePlan) (q new : PhasePlan) → AreNumbered qs → k < length qs → q ≡ get_or qs k q → new ≡ f q → AreNumbered (set qs k new)
set_numbered f keeps k qs q new are less is change = subst AreNumbered (sym (set_is f k qs q new are less is change)) (stays_numbered f keeps k qs are)
