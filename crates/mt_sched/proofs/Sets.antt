-- The two sets beside the plans, when a job comes.
use Rattle.std.proofs.Common.{◌≡◌, ℕ, Bool, true, false, cond, List, Option, Some, None, refl, sym, ap, ◌∙◌}
use Rattle.std.specs.List.Sorted.{IsStrictlySortedBy}
use Rattle.std.specs.BTreeMap.{is_at}
use Rattle.std.specs.Map.{keys_of}
use Rattle.std.specs.Ordering.{nat_cmp}
use Rattle.mt_sched.specs.Plans.{AreOf, IsSched, has_number, passes, plan_at}
use Rattle.mt_sched.specs.Plan.{Plan, has_ready_in, waits_in}
use Rattle.mt_sched.proofs.Walks.{same_number}

-- the plans differ at most at this job, of which there is this plan
abbrev pub HasPlan : ℕ → Option Plan → List (ℕ × Plan) → List (ℕ × Plan) → Type 0
HasPlan job w plans new = (k : ℕ) → plan_at new k ≡ cond (is_at (nat_cmp job) k) w (plan_at plans k)

new_in : (test : Plan → Bool) (plans new : List (ℕ × Plan)) (numbers : List ℕ) (job : ℕ) (plan : Plan) → plan_at plans job ≡ None → test plan ≡ false → AreOf test plans numbers → HasPlan job (Some plan) plans new → AreOf test new numbers
new_in test plans new numbers job plan none not_yet are at k = by (is_at (nat_cmp job) k) refl (at k)
  where
    by : (b : Bool) → is_at (nat_cmp job) k ≡ b → plan_at new k ≡ cond b (Some plan) (plan_at plans k) → has_number numbers k ≡ passes test (plan_at new k)
    by true is a = are k ∙ ap (passes test) (ap (plan_at plans) (same_number job k is) ∙ none) ∙ sym not_yet ∙ ap (passes test) (sym a)
    by false is a = are k ∙ ap (passes test) (sym a)

-- a new job without a ready task, which does not wait, is in neither set
pub sched_with : (plans new : List (ℕ × Plan)) (active finishing : List ℕ) (job : ℕ) (plan : Plan) → IsSched plans active finishing → IsStrictlySortedBy nat_cmp (keys_of new) → plan_at plans job ≡ None
    → has_ready_in plan ≡ false → waits_in plan ≡ false → HasPlan job (Some plan) plans new → IsSched new active finishing
sched_with plans new active finishing job plan is sorted none not_ready not_waiting at = record {
  rising = sorted;
  active_rising = is.active_rising;
  finishing_rising = is.finishing_rising;
  active = new_in has_ready_in plans new active job plan none not_ready is.active at;
  finishing = new_in waits_in plans new finishing job plan none not_waiting is.finishing at;
}
