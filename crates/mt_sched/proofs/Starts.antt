-- The plan of a job that was just made.
use Rattle.std.proofs.Common.{◌≡◌, ℕ, ◌+◌, ◌<◌, ◌≤◌, false, cond, ◌||◌, List, [], ◌∷◌, ◌++◌, length, map, get_or, take, Some, None, refl, sym, ap, ◌∙◌, arith, zero, suc}
use Rattle.std.proofs.Math.Seq.{take-suc}
use Rattle.std.specs.List.{enumerate_from, list_any, range_with_len}
use Rattle.std.specs.Ordering.{is_eq}
use Rattle.std.proofs.lemmas.List.Elements.{All-head, All-tail}
use Rattle.mt_types.specs.declared.document.Phase.{Phase}
use Rattle.mt_types.specs.declared.document.PhaseKind.{PhaseKind}
use Rattle.mt_types.specs.declared.document.PhaseKind.TheVariants.{Map, Reduce}
use Rattle.mt_model.proofs.Maps.{map-append}
use Rattle.mt_sched.specs.Plans.{IsAbove, plan_at}
use Rattle.mt_sched.specs.Plan.{AreNumbered, Plan, has_ready_in, has_ready_phase, waits_in}
use Rattle.mt_sched.specs.PlanOfJob.{kinds_of}
use Rattle.mt_sched.specs.PlanSteps.{first_phase, first_plan}
use Rattle.mt_sched.proofs.Orders.{greater}

one_more : {X : Type 0} (n : ℕ) (xs : List X) (x : X) → enumerate_from n (xs ++ x ∷ []) ≡ enumerate_from n xs ++ (n + length xs, x) ∷ []
one_more n [] x = let here : n ≡ n + 0 = omega arith in ap (λ m. (m, x) ∷ []) here
one_more n (y ∷ ys) x =
    let on : n + 1 + length ys ≡ n + suc (length ys) = omega arith in
    ap (λ l. (n, y) ∷ l) (one_more (n + 1) ys x) ∙ ap (λ m. (n, y) ∷ enumerate_from (n + 1) ys ++ (m, x) ∷ []) on

length_take : {X : Type 0} (i : ℕ) (xs : List X) → i ≤ length xs → length (take i xs) ≡ i
length_take zero [] le = refl
length_take zero (x ∷ xs) le = refl
length_take (suc i) [] le = absurd (omega (arith, le))
length_take (suc i) (x ∷ xs) le = ap suc (length_take i xs (omega (arith, le)))

-- one phase more
pub first_phases_on : (phases : List Phase) (i : ℕ) (p : Phase) → i < length phases → p ≡ get_or phases i p
    → map first_phase (enumerate_from 0 (kinds_of (take i phases))) ++ first_phase (i, p.kind) ∷ [] ≡ map first_phase (enumerate_from 0 (kinds_of (take (i + 1) phases)))
first_phases_on phases i p less is =
    let on : i + 1 ≡ suc i = omega arith in
    let many : 0 + length (kinds_of (take i phases)) ≡ i = omega (arith, length_take i phases (omega (arith, less)), length_kinds (take i phases)) in
    sym (ap (λ n. map first_phase (enumerate_from 0 (kinds_of (take n phases)))) on
    ∙ ap (λ l. map first_phase (enumerate_from 0 (kinds_of l))) (take-suc phases i p less ∙ ap (λ x. take i phases ++ x ∷ []) (sym is))
    ∙ ap (λ l. map first_phase (enumerate_from 0 l)) (map-append (λ p. p.kind) (take i phases) (p ∷ []))
    ∙ ap (map first_phase) (one_more 0 (kinds_of (take i phases)) p.kind)
    ∙ map-append first_phase (enumerate_from 0 (kinds_of (take i phases))) ((0 + length (kinds_of (take i phases)), p.kind) ∷ [])
    ∙ ap (λ n. map first_phase (enumerate_from 0 (kinds_of (take i phases))) ++ first_phase (n, p.kind) ∷ []) many)
  where
    length_kinds : (ps : List Phase) → length (kinds_of ps) ≡ length ps
    length_kinds [] = refl
    length_kinds (q ∷ qs) = ap suc (length_kinds qs)

numbers_from : (n : ℕ) (kinds : List PhaseKind) → map (λ q. q.phase) (map first_phase (enumerate_from n kinds)) ≡ range_with_len n (length (map first_phase (enumerate_from n kinds)))
numbers_from n [] = refl
numbers_from n (k ∷ ks) = ap (λ l. n ∷ l) (numbers_from (n + 1) ks)

-- the first phases are numbered from 0
pub first_numbered : (kinds : List PhaseKind) → AreNumbered (map first_phase (enumerate_from 0 kinds))
first_numbered kinds = numbers_from 0 kinds

phase_not_ready : (plan : Plan) (n : ℕ) (kind : PhaseKind) → plan.ended ≡ false → has_ready_phase plan (first_phase (n, kind)) ≡ false
phase_not_ready plan n Map on = refl
phase_not_ready plan n (Reduce count) on = cc

none_ready_from : (plan : Plan) (n : ℕ) (kinds : List PhaseKind) → plan.ended ≡ false → list_any (has_ready_phase plan) (map first_phase (enumerate_from n kinds)) ≡ false
none_ready_from plan n [] on = refl
none_ready_from plan n (k ∷ ks) on =
    ap (λ b. b || list_any (has_ready_phase plan) (map first_phase (enumerate_from (n + 1) ks))) (phase_not_ready plan n k on) ∙ none_ready_from plan (n + 1) ks on

-- nothing of a new job is ready
pub first_not_ready : (kinds : List PhaseKind) → has_ready_in (first_plan kinds) ≡ false
first_not_ready kinds = none_ready_from (first_plan kinds) 0 kinds refl

-- a new job does not wait
pub first_not_waiting : (kinds : List PhaseKind) → waits_in (first_plan kinds) ≡ false
first_not_waiting kinds = refl

-- a number above all has no plan
pub none_above : (job : ℕ) (plans : List (ℕ × Plan)) → IsAbove job plans → plan_at plans job ≡ None
none_above job [] above = refl
none_above job (e ∷ es) above =
    ap (λ o. cond (is_eq o) (Some e.1) (plan_at es job)) (greater job e.0 (All-head (λ e. e.0 < job) e es above)) ∙ none_above job es (All-tail (λ e. e.0 < job) e es above)
