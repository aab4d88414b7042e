-- To feed items one by one is to feed them at once, for callers of `Sched::feed`.
use Rattle.std.proofs.Common.{◌≡◌, ℕ, ◌+◌, ◌==◌, Bool, true, false, cond, List, [], ◌∷◌, ◌++◌, map, refl, sym, ap, ◌∙◌, arith}
use Rattle.std.specs.List.{range_with_len}
use Rattle.std.proofs.lemmas.List.{append_assoc, append-nil}
use Rattle.mt_types.specs.declared.document.PhaseKind.{PhaseKind}
use Rattle.mt_types.specs.declared.document.PhaseKind.TheVariants.{Map, Reduce}
use Rattle.mt_sched.specs.Plan.{PhasePlan, Plan}
use Rattle.mt_sched.specs.PlanSteps.{fed, fed_to, grown, with_plan}
use Rattle.mt_sched.proofs.Filters.{range_split}
use Rattle.mt_sched.proofs.Phases.{fed_number}

same_kind : (n : ℕ) (kind : PhaseKind) (q : PhasePlan) → (fed_to n kind q).kind ≡ q.kind
same_kind n Map q = refl
same_kind n (Reduce count) q = refl

one_more : (n : ℕ) (kind : PhaseKind) (q : PhasePlan) → fed_to 1 kind (fed_to n kind q) ≡ fed_to (n + 1) kind q
one_more n Map q =
    let on : q.places + n + 1 ≡ q.places + (n + 1) = omega arith in
    ap {B = PhasePlan} (λ m. record q { places = m; todo = (q.todo ++ range_with_len q.places n) ++ range_with_len (q.places + n) 1 }) on
    ∙ ap {B = PhasePlan} (λ l. record q { places = q.places + (n + 1); todo = l }) (append_assoc q.todo (range_with_len q.places n) (range_with_len (q.places + n) 1) ∙ ap (λ l. q.todo ++ l) (sym (range_split q.places n 1)))
one_more n (Reduce count) q = refl

-- one item more, after so many
pub fed_again : (n : ℕ) (q : PhasePlan) → fed 1 (fed n q) ≡ fed (n + 1) q
fed_again n q = ap (λ k. fed_to 1 k (fed n q)) (same_kind n q.kind q) ∙ one_more n q.kind q

-- no item
none_to : (kind : PhaseKind) (q : PhasePlan) → fed_to 0 kind q ≡ q
none_to Map q =
    let on : q.places + 0 ≡ q.places = omega arith in
    ap {B = PhasePlan} (λ m. record q { places = m; todo = q.todo ++ [] }) on ∙ ap {B = PhasePlan} (λ l. record q { todo = l }) (append-nil q.todo)
none_to (Reduce count) q = refl

phase_again : (phase n : ℕ) (q : PhasePlan) → (t : Bool) → q.phase == phase ≡ t
    → cond ((cond t (fed n q) q).phase == phase) (fed 1 (cond t (fed n q) q)) (cond t (fed n q) q) ≡ cond t (fed (n + 1) q) q
phase_again phase n q true at = ap (λ k. cond (k == phase) (fed 1 (fed n q)) (fed n q)) (fed_number n q) ∙ ap (λ b. cond b (fed 1 (fed n q)) (fed n q)) at ∙ fed_again n q
phase_again phase n q false at = ap (λ b. cond b (fed 1 q) q) at

phases_again : (phase n : ℕ) (qs : List PhasePlan)
    → map (λ q. cond (q.phase == phase) (fed 1 q) q) (map (λ q. cond (q.phase == phase) (fed n q) q) qs) ≡ map (λ q. cond (q.phase == phase) (fed (n + 1) q) q) qs
phases_again phase n [] = refl
phases_again phase n (q ∷ qs) = λ i. phase_again phase n q (q.phase == phase) refl i ∷ phases_again phase n qs i

-- a plan grows by one item more, after so many
pub grown_again : (plan : Plan) (phase n : ℕ) → grown (grown plan phase n) phase 1 ≡ grown plan phase (n + 1)
grown_again plan phase n = ap {B = Plan} (λ l. record plan { phases = l }) (phases_again phase n plan.phases)

phases_none : (phase : ℕ) (qs : List PhasePlan) → map (λ q. cond (q.phase == phase) (fed 0 q) q) qs ≡ qs
phases_none phase [] = refl
phases_none phase (q ∷ qs) = λ i. by (q.phase == phase) i ∷ phases_none phase qs i
  where
    by : (t : Bool) → cond t (fed 0 q) q ≡ q
    by true = none_to q.kind q
    by false = refl

plan_again : (job phase n : ℕ) (e : ℕ × Plan) → (t : Bool) → e.0 == job ≡ t
    → cond ((cond t (e.0, grown e.1 phase n) e).0 == job) ((cond t (e.0, grown e.1 phase n) e).0, grown (cond t (e.0, grown e.1 phase n) e).1 phase 1) (cond t (e.0, grown e.1 phase n) e) ≡ cond t (e.0, grown e.1 phase (n + 1)) e
plan_again job phase n e true at =
    ap {B = ℕ × Plan} (λ b. cond b (e.0, grown (grown e.1 phase n) phase 1) (e.0, grown e.1 phase n)) at ∙ ap {B = ℕ × Plan} (λ p. (e.0, p)) (grown_again e.1 phase n)
plan_again job phase n e false at = ap {B = ℕ × Plan} (λ b. cond b (e.0, grown e.1 phase 1) e) at

-- so does the plan of a job among all
pub plans_again : (job phase n : ℕ) (plans : List (ℕ × Plan))
    → with_plan (with_plan plans job (λ plan. grown plan phase n)) job (λ plan. grown plan phase 1) ≡ with_plan plans job (λ plan. grown plan phase (n + 1))
plans_again job phase n [] = refl
plans_again job phase n (e ∷ es) = λ i. plan_again job phase n e (e.0 == job) refl i ∷ plans_again job phase n es i

-- no item changes nothing
pub grown_by_none : (plan : Plan) (phase : ℕ) → grown plan phase 0 ≡ plan
grown_by_none plan phase = ap {B = Plan} (λ l. record plan { phases = l }) (phases_none phase plan.phases)
