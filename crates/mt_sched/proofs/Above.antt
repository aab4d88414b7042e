-- A number above all jobs stays so, for callers of `Sched::add`.
use Rattle.std.proofs.Common.{ℕ, ◌+◌, ◌<◌, ◌==◌, Bool, true, false, not, cond, List, [], ◌∷◌, ◌++◌, Result, Ok, Err, sym, subst, arith}
use Rattle.std.specs.Prelude.{◌≡◌, OnErr, OnOk}
use Rattle.std.proofs.lemmas.List.Elements.{All-filter, All-map, All-push, All-weaker}
use Rattle.mt_sched.specs.Plans.{IsAbove}
use Rattle.mt_sched.specs.Plan.{Plan}
use Rattle.mt_sched.specs.PlanSteps.{with_plan, without_plan}

-- a plan changes
pub above_with : (n job : ℕ) (f : Plan → Plan) (plans : List (ℕ × Plan)) → IsAbove n plans → IsAbove n (with_plan plans job f)
above_with n job f plans above =
    All-map (λ e. e.0 < n) (λ e. cond (e.0 == job) (e.0, f e.1) e) plans
    (All-weaker (λ e. e.0 < n) (λ e. (cond (e.0 == job) (e.0, f e.1) e).0 < n) (λ e below. by e (e.0 == job) below) plans above)
  where
    by : (e : ℕ × Plan) (t : Bool) → e.0 < n → (cond t (e.0, f e.1) e).0 < n
    by e true below = below
    by e false below = below

-- or does not, for want of memory
pub above_after : {T E : Type 0} (r : Result T E) (n job : ℕ) (f : Plan → Plan) (old new : List (ℕ × Plan)) → OnOk r (new ≡ with_plan old job f) → OnErr r (new ≡ old) → IsAbove n old → IsAbove n new
above_after (Ok x) n job f old new ok err above = subst (IsAbove n) (sym ok) (above_with n job f old above)
above_after (Err e) n job f old new ok err above = subst (IsAbove n) (sym err) above

-- a job goes
pub above_without : (n job : ℕ) (plans : List (ℕ × Plan)) → IsAbove n plans → IsAbove n (without_plan plans job)
above_without n job plans above = All-filter (λ e. not (e.0 == job)) (λ e. e.0 < n) plans above

-- the job of that number comes
pub above_next : (n : ℕ) (plan : Plan) (plans : List (ℕ × Plan)) → IsAbove n plans → IsAbove (n + 1) (plans ++ (n, plan) ∷ [])
above_next n plan plans above =
    All-push (λ e. e.0 < n + 1) plans (n, plan) (All-weaker (λ e. e.0 < n) (λ e. e.0 < n + 1) (λ e below. omega (arith, below)) plans above) (omega arith)
