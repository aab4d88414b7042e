-- Phases that are numbered from 0: the one at an index is the one of that number.
use Rattle.std.proofs.Common.{◌≡◌, ℕ, ◌+◌, ◌<◌, ◌≤◌, ◌==◌, Bool, true, false, not, cond, ◌&&◌, ◌||◌, is_some, List, [], ◌∷◌, length, map, get_or, drop, Option, Some, None, refl, sym, ap, ◌∙◌, arith, zero, suc, eq-eqb, drop-cons}
use Rattle.std.proofs.Math.ListN.{set}
use Rattle.std.specs.List.{flat_map, list_all, list_any, range_with_len}
use Rattle.std.specs.Option.{option_or}
use Rattle.std.proofs.lemmas.List.Folds.{find-append}
use Rattle.mt_types.specs.declared.document.PhaseKind.{PhaseKind}
use Rattle.mt_types.specs.declared.document.PhaseKind.TheVariants.{Map, Reduce}
use Rattle.mt_types.specs.declared.job.Task.{Task}
use Rattle.mt_model.proofs.Maps.{length-map}
use Rattle.mt_sched.specs.Plan.{AreNumbered, PhasePlan, Plan, first_but, has_ready_in, has_ready_phase, has_task, is_complete_phase, ready_in, ready_of_phase}
use Rattle.mt_sched.specs.PlanSteps.{fed, fed_to, is_complete_after, without_place}
use Rattle.mt_sched.proofs.Filters.{differ}

abbrev AreFrom : ℕ → List PhasePlan → Type 0
AreFrom n phases = map (λ q. q.phase) phases ≡ range_with_len n (length phases)

abbrev head_or : ℕ → List ℕ → ℕ
head_or d [] = d
head_or d (x ∷ xs) = x

abbrev tail_of : List ℕ → List ℕ
tail_of [] = []
tail_of (x ∷ xs) = xs

first_number : (n : ℕ) (q : PhasePlan) (qs : List PhasePlan) → AreFrom n (q ∷ qs) → q.phase ≡ n
first_number n q qs are = ap (head_or n) are

next_numbers : (n : ℕ) (q : PhasePlan) (qs : List PhasePlan) → AreFrom n (q ∷ qs) → AreFrom (n + 1) qs
next_numbers n q qs are = ap tail_of are

-- no phase has a number below the first, or beyond the last
none_below : (n k : ℕ) (f : PhasePlan → PhasePlan) (qs : List PhasePlan) → AreFrom n qs → k < n → map (λ q. cond (q.phase == k) (f q) q) qs ≡ qs
none_below n k f [] are less = refl
none_below n k f (q ∷ qs) are less =
    let number : q.phase ≡ n = first_number n q qs are in
    ap (λ b. cond b (f q) q ∷ map (λ q. cond (q.phase == k) (f q) q) qs) (differ q.phase k (λ e. omega (arith, e, number, less)) (q.phase == k) refl)
    ∙ ap (λ l. q ∷ l) (none_below (n + 1) k f qs (next_numbers n q qs are) (omega arith))

none_past : (n k : ℕ) (f : PhasePlan → PhasePlan) (qs : List PhasePlan) → AreFrom n qs → n + length qs ≤ k → map (λ q. cond (q.phase == k) (f q) q) qs ≡ qs
none_past n k f [] are past = refl
none_past n k f (q ∷ qs) are past =
    let number : q.phase ≡ n = first_number n q qs are in
    ap (λ b. cond b (f q) q ∷ map (λ q. cond (q.phase == k) (f q) q) qs) (differ q.phase k (λ e. omega (arith, e, number, past)) (q.phase == k) refl)
    ∙ ap (λ l. q ∷ l) (none_past (n + 1) k f qs (next_numbers n q qs are) (omega arith))

at_index : (n i k : ℕ) (f : PhasePlan → PhasePlan) (d : PhasePlan) (qs : List PhasePlan) → AreFrom n qs → n + i ≡ k → i < length qs → set qs i (f (get_or qs i d)) ≡ map (λ q. cond (q.phase == k) (f q) q) qs
at_index n i k f d [] are at less = absurd (omega arith)
at_index n zero k f d (q ∷ qs) are at less =
    let number : q.phase ≡ n = first_number n q qs are in
    let here : q.phase ≡ k = omega (arith, number, at) in
    ap (λ l. f q ∷ l) (sym (none_below (n + 1) k f qs (next_numbers n q qs are) (omega (arith, at))))
    ∙ ap (λ b. cond b (f q) q ∷ map (λ q. cond (q.phase == k) (f q) q) qs) (sym (eq-eqb q.phase k here))
at_index n (suc i) k f d (q ∷ qs) are at less =
    let number : q.phase ≡ n = first_number n q qs are in
    ap (λ l. q ∷ l) (at_index (n + 1) i k f d qs (next_numbers n q qs are) (omega (arith, at)) (omega (arith, less)))
    ∙ ap (λ b. cond b (f q) q ∷ map (λ q. cond (q.phase == k) (f q) q) qs) (sym (differ q.phase k (λ e. omega (arith, e, number, at)) (q.phase == k) refl))

-- to change the phase at an index is to change the one of that number
pub set_phase : (k : ℕ) (f : PhasePlan → PhasePlan) (d : PhasePlan) (qs : List PhasePlan) → AreNumbered qs → k < length qs → set qs k (f (get_or qs k d)) ≡ map (λ q. cond (q.phase == k) (f q) q) qs
set_phase k f d qs are less = at_index 0 k k f d qs are (omega arith) less

pub no_phase : (k : ℕ) (f : PhasePlan → PhasePlan) (qs : List PhasePlan) → AreNumbered qs → length qs ≤ k → map (λ q. cond (q.phase == k) (f q) q) qs ≡ qs
no_phase k f qs are past = none_past 0 k f qs are (omega (arith, past))

keeps_number : (f : PhasePlan → PhasePlan) → ((q : PhasePlan) → (f q).phase ≡ q.phase) → (k : ℕ) (qs : List PhasePlan) → map (λ q. q.phase) (map (λ q. cond (q.phase == k) (f q) q) qs) ≡ map (λ q. q.phase) qs
keeps_number f keeps k [] = refl
keeps_number f keeps k (q ∷ qs) = ap (λ l. (cond (q.phase == k) (f q) q).phase ∷ l) (keeps_number f keeps k qs) ∙ ap (λ x. x ∷ map (λ q. q.phase) qs) (by (q.phase == k))
  where
    by : (b : Bool) → (cond b (f q) q).phase ≡ q.phase
    by true = keeps q
    by false = refl

-- a change of a phase that keeps its number keeps the numbers
pub stays_numbered : (f : PhasePlan → PhasePlan) → ((q : PhasePlan) → (f q).phase ≡ q.phase) → (k : ℕ) (qs : List PhasePlan) → AreNumbered qs → AreNumbered (map (λ q. cond (q.phase == k) (f q) q) qs)
stays_numbered f keeps k qs are = keeps_number f keeps k qs ∙ are ∙ ap (range_with_len 0) (sym (length-map (λ q. cond (q.phase == k) (f q) q) qs))

fed_kind : (n : ℕ) (kind : PhaseKind) (q : PhasePlan) → (fed_to n kind q).phase ≡ q.phase
fed_kind n Map q = refl
fed_kind n (Reduce count) q = refl

pub fed_number : (n : ℕ) (q : PhasePlan) → (fed n q).phase ≡ q.phase
fed_number n q = fed_kind n q.kind q

pub without_number : (place : ℕ) (q : PhasePlan) → (without_place place q).phase ≡ q.phase
without_number place q = refl

-- ---- from a phase on

pub drop_step : {X : Type 0} (xs : List X) (i : ℕ) (x : X) → i < length xs → x ≡ get_or xs i x → drop i xs ≡ x ∷ drop (i + 1) xs
drop_step xs i x less is =
    let on : suc i ≡ i + 1 = omega arith in
    drop-cons xs i x less ∙ ap (λ y. y ∷ drop (suc i) xs) (sym is) ∙ ap (λ m. x ∷ drop m xs) on

pub drop_all : {X : Type 0} (xs : List X) (i : ℕ) → length xs ≤ i → drop i xs ≡ []
drop_all [] zero le = refl
drop_all [] (suc i) le = refl
drop_all (x ∷ xs) zero le = absurd (omega (arith, le))
drop_all (x ∷ xs) (suc i) le = drop_all xs i (omega (arith, le))

-- whether each phase is complete
pub all_on : (qs : List PhasePlan) (i : ℕ) (q : PhasePlan) → i < length qs → q ≡ get_or qs i q → is_complete_phase q ≡ true
    → list_all is_complete_phase (drop i qs) ≡ list_all is_complete_phase qs → list_all is_complete_phase (drop (i + 1) qs) ≡ list_all is_complete_phase qs
all_on qs i q less is complete so_far =
    sym (ap (list_all is_complete_phase) (drop_step qs i q less is) ∙ ap (λ b. b && list_all is_complete_phase (drop (i + 1) qs)) complete) ∙ so_far

pub all_stopped : (qs : List PhasePlan) (i : ℕ) (q : PhasePlan) → i < length qs → q ≡ get_or qs i q → is_complete_phase q ≡ false
    → list_all is_complete_phase (drop i qs) ≡ list_all is_complete_phase qs → false ≡ list_all is_complete_phase qs
all_stopped qs i q less is complete so_far =
    sym (ap (list_all is_complete_phase) (drop_step qs i q less is) ∙ ap (λ b. b && list_all is_complete_phase (drop (i + 1) qs)) complete) ∙ so_far

pub all_done : (qs : List PhasePlan) (i : ℕ) → length qs ≤ i → list_all is_complete_phase (drop i qs) ≡ list_all is_complete_phase qs → true ≡ list_all is_complete_phase qs
all_done qs i past so_far = sym (ap (list_all is_complete_phase) (drop_all qs i past)) ∙ so_far

-- whether each phase is complete once a place is committed
pub after_on : (phase place : ℕ) (qs : List PhasePlan) (i : ℕ) (q : PhasePlan) → i < length qs → q ≡ get_or qs i q → is_complete_after phase place q ≡ true
    → list_all (is_complete_after phase place) (drop i qs) ≡ list_all (is_complete_after phase place) qs → list_all (is_complete_after phase place) (drop (i + 1) qs) ≡ list_all (is_complete_after phase place) qs
after_on phase place qs i q less is complete so_far =
    sym (ap (list_all (is_complete_after phase place)) (drop_step qs i q less is) ∙ ap (λ b. b && list_all (is_complete_after phase place) (drop (i + 1) qs)) complete) ∙ so_far

pub after_stopped : (phase place : ℕ) (qs : List PhasePlan) (i : ℕ) (q : PhasePlan) → i < length qs → q ≡ get_or qs i q → is_complete_after phase place q ≡ false
    → list_all (is_complete_after phase place) (drop i qs) ≡ list_all (is_complete_after phase place) qs → false ≡ list_all (is_complete_after phase place) qs
after_stopped phase place qs i q less is complete so_far =
    sym (ap (list_all (is_complete_after phase place)) (drop_step qs i q less is) ∙ ap (λ b. b && list_all (is_complete_after phase place) (drop (i + 1) qs)) complete) ∙ so_far

pub after_done : (phase place : ℕ) (qs : List PhasePlan) (i : ℕ) → length qs ≤ i → list_all (is_complete_after phase place) (drop i qs) ≡ list_all (is_complete_after phase place) qs
    → true ≡ list_all (is_complete_after phase place) qs
after_done phase place qs i past so_far = sym (ap (list_all (is_complete_after phase place)) (drop_all qs i past)) ∙ so_far

-- whether a task of a phase is ready
pub any_on : (plan : Plan) (i : ℕ) (q : PhasePlan) → i < length plan.phases → q ≡ get_or plan.phases i q → has_ready_phase plan q ≡ false
    → list_any (has_ready_phase plan) (drop i plan.phases) ≡ has_ready_in plan → list_any (has_ready_phase plan) (drop (i + 1) plan.phases) ≡ has_ready_in plan
any_on plan i q less is ready so_far =
    sym (ap (list_any (has_ready_phase plan)) (drop_step plan.phases i q less is) ∙ ap (λ b. b || list_any (has_ready_phase plan) (drop (i + 1) plan.phases)) ready) ∙ so_far

pub any_found : (plan : Plan) (i : ℕ) (q : PhasePlan) → i < length plan.phases → q ≡ get_or plan.phases i q → has_ready_phase plan q ≡ true
    → list_any (has_ready_phase plan) (drop i plan.phases) ≡ has_ready_in plan → true ≡ has_ready_in plan
any_found plan i q less is ready so_far =
    sym (ap (list_any (has_ready_phase plan)) (drop_step plan.phases i q less is) ∙ ap (λ b. b || list_any (has_ready_phase plan) (drop (i + 1) plan.phases)) ready) ∙ so_far

pub any_done : (plan : Plan) (i : ℕ) → length plan.phases ≤ i → list_any (has_ready_phase plan) (drop i plan.phases) ≡ has_ready_in plan → false ≡ has_ready_in plan
any_done plan i past so_far = sym (ap (list_any (has_ready_phase plan)) (drop_all plan.phases i past)) ∙ so_far

-- the first ready task
ready_split : (job : ℕ) (plan : Plan) (skip : List Task) (i : ℕ) (q : PhasePlan) → i < length plan.phases → q ≡ get_or plan.phases i q
    → first_but skip (flat_map (ready_of_phase job plan) (drop i plan.phases))
    ≡ option_or (first_but skip (ready_of_phase job plan q)) (first_but skip (flat_map (ready_of_phase job plan) (drop (i + 1) plan.phases)))
ready_split job plan skip i q less is =
    ap (λ l. first_but skip (flat_map (ready_of_phase job plan) l)) (drop_step plan.phases i q less is)
    ∙ find-append (λ t. not (has_task skip t)) (ready_of_phase job plan q) (flat_map (ready_of_phase job plan) (drop (i + 1) plan.phases))

pub some_first : (a b : Option Task) → is_some a ≡ true → option_or a b ≡ a
some_first None b e = absurd cc
some_first (Some t) b e = refl

pub none_first : (a b : Option Task) → is_some a ≡ false → option_or a b ≡ b
none_first None b e = refl
none_first (Some t) b e = absurd cc

pub ready_on : (job : ℕ) (plan : Plan) (skip : List Task) (i : ℕ) (q : PhasePlan) → i < length plan.phases → q ≡ get_or plan.phases i q → is_some (first_but skip (ready_of_phase job plan q)) ≡ false
    → first_but skip (flat_map (ready_of_phase job plan) (drop i plan.phases)) ≡ first_but skip (ready_in job plan)
    → first_but skip (flat_map (ready_of_phase job plan) (drop (i + 1) plan.phases)) ≡ first_but skip (ready_in job plan)
ready_on job plan skip i q less is none so_far =
    sym (ready_split job plan skip i q less is ∙ none_first (first_but skip (ready_of_phase job plan q)) (first_but skip (flat_map (ready_of_phase job plan) (drop (i + 1) plan.phases))) none) ∙ so_far

pub ready_found : (job : ℕ) (plan : Plan) (skip : List Task) (i : ℕ) (q : PhasePlan) → i < length plan.phases → q ≡ get_or plan.phases i q → is_some (first_but skip (ready_of_phase job plan q)) ≡ true
    → first_but skip (flat_map (ready_of_phase job plan) (drop i plan.phases)) ≡ first_but skip (ready_in job plan)
    → first_but skip (ready_of_phase job plan q) ≡ first_but skip (ready_in job plan)
ready_found job plan skip i q less is some so_far =
    sym (ready_split job plan skip i q less is ∙ some_first (first_but skip (ready_of_phase job plan q)) (first_but skip (flat_map (ready_of_phase job plan) (drop (i + 1) plan.phases))) some) ∙ so_far

pub ready_done : (job : ℕ) (plan : Plan) (skip : List Task) (i : ℕ) → length plan.phases ≤ i
    → first_but skip (flat_map (ready_of_phase job plan) (drop i plan.phases)) ≡ first_but skip (ready_in job plan) → None ≡ first_but skip (ready_in job plan)
ready_done job plan skip i past so_far = sym (ap (λ l. first_but skip (flat_map (ready_of_phase job plan) l)) (drop_all plan.phases i past)) ∙ so_far
