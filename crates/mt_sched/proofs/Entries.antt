-- The plans of jobs as a map in the order of their numbers, and the sets beside it.
use Rattle.std.proofs.Common.{◌≡◌, ℕ, ◌<◌, ◌==◌, Bool, true, false, not, cond, List, [], ◌∷◌, ◌++◌, Some, None, refl, sym, ap, subst, ◌∙◌}
use Rattle.std.specs.List.{AllByRecursion}
use Rattle.std.specs.List.Sorted.{IsStrictlySortedBy}
use Rattle.std.specs.Option.{unwrap_or}
use Rattle.std.specs.BTreeMap.{insert_entry, is_at}
use Rattle.std.specs.Map.{keys_of, remove_entry, set_value}
use Rattle.std.specs.Ordering.{nat_cmp, is_eq, match_ordering}
use Rattle.std.specs.declared.cmp.Ordering.TheVariants.{Less}
use Rattle.std.proofs.lemmas.List.Elements.{All-head, All-tail}
use Rattle.std.proofs.lemmas.Map.Keys.{sorted_head, sorted_tail}
use Rattle.mt_sched.specs.Plans.{IsAbove, plan_at}
use Rattle.mt_sched.specs.Plan.{Plan}
use Rattle.mt_sched.specs.PlanSteps.{with_plan, without_plan}
use Rattle.mt_sched.proofs.Orders.{greater, same_test}
use Rattle.mt_sched.proofs.Walks.{same_number}

-- no job beyond has the number
others_stay : (job : ℕ) (f : Plan → Plan) (es : List (ℕ × Plan)) → AllByRecursion (λ y. nat_cmp job y ≡ Less) (keys_of es) → with_plan es job f ≡ es
others_stay job f [] above = refl
others_stay job f (e ∷ es) above =
    let away : (e.0 == job) ≡ false = sym (same_test job e.0) ∙ ap is_eq above.0 in
    ap (λ b. cond b (e.0, f e.1) e ∷ with_plan es job f) away ∙ ap (λ l. e ∷ l) (others_stay job f es above.1)

others_are : (job : ℕ) (es : List (ℕ × Plan)) → AllByRecursion (λ y. nat_cmp job y ≡ Less) (keys_of es) → without_plan es job ≡ es
others_are job [] above = refl
others_are job (e ∷ es) above =
    let away : (e.0 == job) ≡ false = sym (same_test job e.0) ∙ ap is_eq above.0 in
    ap (λ b. cond (not b) (e ∷ without_plan es job) (without_plan es job)) away ∙ ap (λ l. e ∷ l) (others_are job es above.1)

above_job : (job : ℕ) (e : ℕ × Plan) (es : List (ℕ × Plan)) → is_at (nat_cmp job) e.0 ≡ true → IsStrictlySortedBy nat_cmp (keys_of (e ∷ es)) → AllByRecursion (λ y. nat_cmp job y ≡ Less) (keys_of es)
above_job job e es at s = subst (λ m. AllByRecursion (λ y. nat_cmp m y ≡ Less) (keys_of es)) (same_number job e.0 at) (sorted_head nat_cmp e.0 (keys_of es) s)

with_case : (job : ℕ) (f : Plan → Plan) (e : ℕ × Plan) (es : List (ℕ × Plan)) (q w : Plan) → IsStrictlySortedBy nat_cmp (keys_of (e ∷ es)) → w ≡ f q → (b : Bool) → is_at (nat_cmp job) e.0 ≡ b → cond b (Some e.1) (plan_at es job) ≡ Some q
    → (plan_at es job ≡ Some q → set_value (is_at (nat_cmp job)) es w ≡ with_plan es job f)
    → cond b ((e.0, w) ∷ es) (e ∷ set_value (is_at (nat_cmp job)) es w) ≡ cond (e.0 == job) (e.0, f e.1) e ∷ with_plan es job f
with_case job f e es q w s new true at found more =
    let is : e.1 ≡ q = ap (λ o. unwrap_or o e.1) found in
    ap {B = List (ℕ × Plan)} (λ x. (e.0, x) ∷ es) (new ∙ ap f (sym is))
    ∙ ap {B = List (ℕ × Plan)} (λ l. (e.0, f e.1) ∷ l) (sym (others_stay job f es (above_job job e es at s)))
    ∙ ap {B = List (ℕ × Plan)} (λ b. cond b (e.0, f e.1) e ∷ with_plan es job f) (sym (sym (same_test job e.0) ∙ at))
with_case job f e es q w s new false at found more =
    ap (λ l. e ∷ l) (more found) ∙ ap {B = List (ℕ × Plan)} (λ b. cond b (e.0, f e.1) e ∷ with_plan es job f) (sym (sym (same_test job e.0) ∙ at))

-- to write the value of a job's key is to change its plan
pub with_plan_is : (job : ℕ) (f : Plan → Plan) (plans : List (ℕ × Plan)) (q w : Plan) → IsStrictlySortedBy nat_cmp (keys_of plans) → plan_at plans job ≡ Some q → w ≡ f q
    → set_value (is_at (nat_cmp job)) plans w ≡ with_plan plans job f
with_plan_is job f [] q w s found new = absurd cc
with_plan_is job f (e ∷ es) q w s found new =
    with_case job f e es q w s new (is_at (nat_cmp job) e.0) refl found (λ more. with_plan_is job f es q w (sorted_tail nat_cmp e.0 (keys_of es) s) more new)

no_case : (job : ℕ) (f : Plan → Plan) (e : ℕ × Plan) (es : List (ℕ × Plan)) → (b : Bool) → is_at (nat_cmp job) e.0 ≡ b → cond b (Some e.1) (plan_at es job) ≡ None → (plan_at es job ≡ None → with_plan es job f ≡ es)
    → cond (e.0 == job) (e.0, f e.1) e ∷ with_plan es job f ≡ e ∷ es
no_case job f e es true at none more = absurd cc
no_case job f e es false at none more =
    ap {B = List (ℕ × Plan)} (λ b. cond b (e.0, f e.1) e ∷ with_plan es job f) (sym (same_test job e.0) ∙ at) ∙ ap (λ l. e ∷ l) (more none)

-- where there is no such job, nothing changes
pub no_plan : (job : ℕ) (f : Plan → Plan) (plans : List (ℕ × Plan)) → plan_at plans job ≡ None → with_plan plans job f ≡ plans
no_plan job f [] none = refl
no_plan job f (e ∷ es) none = no_case job f e es (is_at (nat_cmp job) e.0) refl none (no_plan job f es)

without_case : (job : ℕ) (e : ℕ × Plan) (es : List (ℕ × Plan)) → IsStrictlySortedBy nat_cmp (keys_of (e ∷ es)) → (b : Bool) → is_at (nat_cmp job) e.0 ≡ b → remove_entry (is_at (nat_cmp job)) es ≡ without_plan es job
    → cond b es (e ∷ remove_entry (is_at (nat_cmp job)) es) ≡ cond (not (e.0 == job)) (e ∷ without_plan es job) (without_plan es job)
without_case job e es s true at more =
    sym (others_are job es (above_job job e es at s)) ∙ ap (λ b. cond (not b) (e ∷ without_plan es job) (without_plan es job)) (sym (sym (same_test job e.0) ∙ at))
without_case job e es s false at more =
    ap (λ l. e ∷ l) more ∙ ap (λ b. cond (not b) (e ∷ without_plan es job) (without_plan es job)) (sym (sym (same_test job e.0) ∙ at))

-- to remove a key is to leave out its job
pub without_plan_is : (job : ℕ) (plans : List (ℕ × Plan)) → IsStrictlySortedBy nat_cmp (keys_of plans) → remove_entry (is_at (nat_cmp job)) plans ≡ without_plan plans job
without_plan_is job [] s = refl
without_plan_is job (e ∷ es) s = without_case job e es s (is_at (nat_cmp job) e.0) refl (without_plan_is job es (sorted_tail nat_cmp e.0 (keys_of es) s))

-- a job above all goes to the end
pub insert_above : (job : ℕ) (plan : Plan) (plans : List (ℕ × Plan)) → IsAbove job plans → insert_entry nat_cmp plans job plan ≡ plans ++ (job, plan) ∷ []
insert_above job plan [] above = refl
insert_above job plan (e ∷ es) above =
    ap (λ o. match_ordering o ((job, plan) ∷ e ∷ es) ((e.0, plan) ∷ es) (e ∷ insert_entry nat_cmp es job plan)) (greater job e.0 (All-head (λ e. e.0 < job) e es above))
    ∙ ap (λ l. e ∷ l) (insert_above job plan es (All-tail (λ e. e.0 < job) e es above))
