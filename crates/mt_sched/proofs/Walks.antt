-- A walk over the jobs that pass a test, in place of one over all.
use Rattle.std.proofs.Common.{◌≡◌, ℕ, ◌<◌, ◌≤◌, Bool, true, false, not, cond, ◌&&◌, ◌||◌, List, [], ◌∷◌, ◌++◌, map, Option, Some, None, refl, sym, ap, subst, ◌∙◌, arith, ◌⊎◌, inl, inr, eq-eqb, true≢false}
use Rattle.std.specs.List.{filter, find, flat_map, list_any, AllByRecursion}
use Rattle.std.specs.List.Sorted.{IsStrictlySortedBy}
use Rattle.std.specs.Option.{option_map}
use Rattle.std.specs.BTreeMap.{is_at}
use Rattle.std.specs.Map.{keys_of}
use Rattle.std.specs.Ordering.{nat_cmp, is_eq, ordering_reverse}
use Rattle.std.specs.Cmp.{nat_cmp_is}
use Rattle.std.specs.declared.cmp.Ordering.TheVariants.{Less}
use Rattle.std.proofs.lemmas.Bool.{cases_lt, eqb-true}
use Rattle.std.proofs.lemmas.Cmp.{nat_cmp_total}
use Rattle.std.proofs.lemmas.Map.Keys.{sorted_head, sorted_tail}
use Rattle.mt_model.proofs.Entries.{all_above}
use Rattle.mt_sched.specs.Plans.{AreOf, has_number, passes, plan_at, ready_at, ready_if}
use Rattle.mt_sched.specs.Plan.{PhasePlan, Plan, all_ready, first_waiting, has_ready_in, has_ready_phase, is_none_left, may_begin_in, ready_in, ready_of_phase, task_at, waits_in}
use Rattle.mt_sched.proofs.Orders.{same_test}

less_than : (a b : ℕ) → a < b → nat_cmp a b ≡ Less
less_than a b less = sym (nat_cmp_is a b Less less)

at_itself : (k : ℕ) → is_at (nat_cmp k) k ≡ true
at_itself k = same_test k k ∙ eq-eqb k k refl

pub same_number : (k x : ℕ) → is_at (nat_cmp k) x ≡ true → x ≡ k
same_number k x e = eqb-true x k (sym (same_test k x) ∙ e)

-- a number below all of a list is not there
none_above : (k : ℕ) (xs : List ℕ) → AllByRecursion (λ y. nat_cmp k y ≡ Less) xs → has_number xs k ≡ false
none_above k [] above = refl
none_above k (x ∷ xs) above = ap (λ o. is_eq o || has_number xs k) above.0 ∙ none_above k xs above.1

-- ---- rising numbers are known by a test for each

tail_case : (k x y : ℕ) (xs ys : List ℕ) → x ≡ y → AllByRecursion (λ z. nat_cmp x z ≡ Less) xs → AllByRecursion (λ z. nat_cmp y z ≡ Less) ys
    → (t : Bool) → is_at (nat_cmp k) x ≡ t → (t || has_number xs k) ≡ (is_at (nat_cmp k) y || has_number ys k) → has_number xs k ≡ has_number ys k
tail_case k x y xs ys same above_x above_y true at e =
    let is : x ≡ k = same_number k x at in
    let is_y : y ≡ k = sym same ∙ is in
    none_above k xs (subst (λ m. AllByRecursion (λ z. nat_cmp m z ≡ Less) xs) is above_x)
    ∙ sym (none_above k ys (subst (λ m. AllByRecursion (λ z. nat_cmp m z ≡ Less) ys) is_y above_y))
tail_case k x y xs ys same above_x above_y false at e =
    e ∙ ap (λ b. b || has_number ys k) (ap (λ m. is_at (nat_cmp k) m) (sym same) ∙ at)

not_there : (x y : ℕ) (xs ys : List ℕ) → x < y → AllByRecursion (λ z. nat_cmp y z ≡ Less) ys → has_number (x ∷ xs) x ≡ has_number (y ∷ ys) x → ⊥
not_there x y xs ys less above e =
    let there : has_number (x ∷ xs) x ≡ true = ap (λ b. b || has_number xs x) (at_itself x) in
    let away : has_number (y ∷ ys) x ≡ false = none_above x (y ∷ ys) (less_than x y less, all_above nat_cmp_total x y ys (less_than x y less) above) in
    true≢false (sym there ∙ e ∙ away)

pub sorted_same : (xs ys : List ℕ) → IsStrictlySortedBy nat_cmp xs → IsStrictlySortedBy nat_cmp ys → ((k : ℕ) → has_number xs k ≡ has_number ys k) → xs ≡ ys
sorted_same [] [] sx sy same = refl
sorted_same [] (y ∷ ys) sx sy same = absurd (true≢false (sym (same y ∙ ap (λ b. b || has_number ys y) (at_itself y))))
sorted_same (x ∷ xs) [] sx sy same = absurd (true≢false (sym (ap (λ b. b || has_number xs x) (at_itself x)) ∙ same x))
sorted_same (x ∷ xs) (y ∷ ys) sx sy same =
    by (cases_lt x y) (cases_lt y x) (λ e. sorted_same xs ys (sorted_tail nat_cmp x xs sx) (sorted_tail nat_cmp y ys sy)
    (λ k. tail_case k x y xs ys e (sorted_head nat_cmp x xs sx) (sorted_head nat_cmp y ys sy) (is_at (nat_cmp k) x) refl (same k)))
  where
    by : (x < y) ⊎ (y ≤ x) → (y < x) ⊎ (x ≤ y) → (x ≡ y → xs ≡ ys) → x ∷ xs ≡ y ∷ ys
    by (inl less) b more = absurd (not_there x y xs ys less (sorted_head nat_cmp y ys sy) (same x))
    by (inr le) (inl less) more = absurd (not_there y x ys xs less (sorted_head nat_cmp x xs sx) (sym (same y)))
    by (inr le) (inr ge) more = let e : x ≡ y = omega (arith, le, ge) in λ i. e i ∷ more e i

-- ---- the numbers of the plans that pass a test

abbrev where_passes : (Plan → Bool) → List (ℕ × Plan) → List ℕ
where_passes test plans = keys_of (filter (λ e. test e.1) plans)

all_where : (P : ℕ → Type 0) (test : Plan → Bool) (plans : List (ℕ × Plan)) → AllByRecursion P (keys_of plans) → AllByRecursion P (where_passes test plans)
all_where P test [] all = tt
all_where P test (e ∷ es) all = elim (test e.1) as (λ b. AllByRecursion P (keys_of (cond b (e ∷ filter (λ e. test e.1) es) (filter (λ e. test e.1) es)))) [
  | true ↦ (all.0, all_where P test es all.1)
  | false ↦ all_where P test es all.1
]

sorted_where : (test : Plan → Bool) (plans : List (ℕ × Plan)) → IsStrictlySortedBy nat_cmp (keys_of plans) → IsStrictlySortedBy nat_cmp (where_passes test plans)
unfolding IsStrictlySortedBy
sorted_where test [] s = tt
sorted_where test (e ∷ es) s = elim (test e.1) as (λ b. IsStrictlySortedBy nat_cmp (keys_of (cond b (e ∷ filter (λ e. test e.1) es) (filter (λ e. test e.1) es)))) [
  | true ↦ (all_where (λ y. nat_cmp e.0 y ≡ Less) test es s.0, sorted_where test es s.1)
  | false ↦ sorted_where test es s.1
]

where_case : (test : Plan → Bool) (e : ℕ × Plan) (es : List (ℕ × Plan)) (k : ℕ) → AllByRecursion (λ y. nat_cmp e.0 y ≡ Less) (keys_of es) → (b t : Bool) → is_at (nat_cmp k) e.0 ≡ b → test e.1 ≡ t
    → has_number (where_passes test es) k ≡ passes test (plan_at es k)
    → has_number (keys_of (cond t (e ∷ filter (λ e. test e.1) es) (filter (λ e. test e.1) es))) k ≡ passes test (cond b (Some e.1) (plan_at es k))
where_case test e es k above true true at passed more = ap (λ b. b || has_number (where_passes test es) k) at ∙ sym passed
where_case test e es k above true false at passed more =
    none_above k (where_passes test es) (subst (λ m. AllByRecursion (λ y. nat_cmp m y ≡ Less) (where_passes test es)) (same_number k e.0 at) (all_where (λ y. nat_cmp e.0 y ≡ Less) test es above)) ∙ sym passed
where_case test e es k above false true at passed more = ap (λ b. b || has_number (where_passes test es) k) at ∙ more
where_case test e es k above false false at passed more = more

has_where : (test : Plan → Bool) (plans : List (ℕ × Plan)) (k : ℕ) → IsStrictlySortedBy nat_cmp (keys_of plans) → has_number (where_passes test plans) k ≡ passes test (plan_at plans k)
has_where test [] k s = refl
has_where test (e ∷ es) k s = where_case test e es k (sorted_head nat_cmp e.0 (keys_of es) s) (is_at (nat_cmp k) e.0) (test e.1) refl refl (has_where test es k (sorted_tail nat_cmp e.0 (keys_of es) s))

-- a kept set has just these numbers, in order
pub kept_is : (test : Plan → Bool) (plans : List (ℕ × Plan)) (numbers : List ℕ) → IsStrictlySortedBy nat_cmp (keys_of plans) → IsStrictlySortedBy nat_cmp numbers → AreOf test plans numbers → numbers ≡ where_passes test plans
kept_is test plans numbers sp sn are = sorted_same numbers (where_passes test plans) sn (sorted_where test plans sp) (λ k. are k ∙ sym (has_where test plans k sp))

-- ---- the ready tasks

phase_case : (job : ℕ) (plan : Plan) (q : PhasePlan) (m : Bool) (todo : List ℕ) → (m && not (is_none_left todo)) ≡ false → cond m (map (task_at job q.phase) todo) [] ≡ []
phase_case job plan q false todo e = refl
phase_case job plan q true [] e = refl
phase_case job plan q true (k ∷ ks) e = absurd (true≢false e)

none_of : (job : ℕ) (plan : Plan) (qs : List PhasePlan) → list_any (has_ready_phase plan) qs ≡ false → flat_map (ready_of_phase job plan) qs ≡ []
none_of job plan [] e = refl
none_of job plan (q ∷ qs) e = by (has_ready_phase plan q) refl e (none_of job plan qs)
  where
    by : (b : Bool) → has_ready_phase plan q ≡ b → (b || list_any (has_ready_phase plan) qs) ≡ false → (list_any (has_ready_phase plan) qs ≡ false → flat_map (ready_of_phase job plan) qs ≡ []) → ready_of_phase job plan q ++ flat_map (ready_of_phase job plan) qs ≡ []
    by true p e more = absurd (true≢false e)
    by false p e more = ap (λ l. l ++ flat_map (ready_of_phase job plan) qs) (phase_case job plan q (may_begin_in plan q.phase q.kind) q.todo p) ∙ more e

-- a plan without a ready task has none
none_ready : (job : ℕ) (plan : Plan) → has_ready_in plan ≡ false → ready_in job plan ≡ []
none_ready job plan e = none_of job plan plan.phases e

-- each of these has its plan among all
abbrev Stand : List (ℕ × Plan) → List (ℕ × Plan) → Type 0
Stand plans [] = Unit {0}
Stand plans (e ∷ es) = (plan_at plans e.0 ≡ Some e.1) × Stand plans es

walk_case : (plans : List (ℕ × Plan)) (e : ℕ × Plan) (es : List (ℕ × Plan)) (t : Bool) → has_ready_in e.1 ≡ t → plan_at plans e.0 ≡ Some e.1
    → flat_map (ready_at plans) (where_passes has_ready_in es) ≡ all_ready es
    → flat_map (ready_at plans) (keys_of (cond t (e ∷ filter (λ e. has_ready_in e.1) es) (filter (λ e. has_ready_in e.1) es))) ≡ ready_in e.0 e.1 ++ all_ready es
walk_case plans e es true t at more = ap (λ o. ready_if e.0 o ++ flat_map (ready_at plans) (where_passes has_ready_in es)) at ∙ ap (λ l. ready_in e.0 e.1 ++ l) more
walk_case plans e es false t at more = more ∙ ap (λ l. l ++ all_ready es) (sym (none_ready e.0 e.1 t))

walk_over : (plans es : List (ℕ × Plan)) → Stand plans es → flat_map (ready_at plans) (where_passes has_ready_in es) ≡ all_ready es
walk_over plans [] stand = refl
walk_over plans (e ∷ es) stand = walk_case plans e es (has_ready_in e.1) refl stand.0 (walk_over plans es stand.1)

-- what stands behind a first entry that is below stands in the whole
behind : (d : ℕ × Plan) (plans es : List (ℕ × Plan)) → AllByRecursion (λ y. nat_cmp d.0 y ≡ Less) (keys_of es) → Stand plans es → Stand (d ∷ plans) es
behind d plans [] above stand = tt
behind d plans (e ∷ es) above stand =
    let away : is_at (nat_cmp e.0) d.0 ≡ false = ap (λ o. is_eq o) (nat_cmp_total.antisymm e.0 d.0 ∙ ap ordering_reverse above.0) in
    (ap (λ b. cond b (Some d.1) (plan_at plans e.0)) away ∙ stand.0, behind d plans es above.1 stand.1)

stand_all : (plans : List (ℕ × Plan)) → IsStrictlySortedBy nat_cmp (keys_of plans) → Stand plans plans
stand_all [] s = tt
stand_all (e ∷ es) s =
    (ap (λ b. cond b (Some e.1) (plan_at es e.0)) (at_itself e.0), behind e es es (sorted_head nat_cmp e.0 (keys_of es) s) (stand_all es (sorted_tail nat_cmp e.0 (keys_of es) s)))

-- the walk over the jobs with a ready task is the walk over all
pub walk_all : (plans : List (ℕ × Plan)) (active : List ℕ) → IsStrictlySortedBy nat_cmp (keys_of plans) → IsStrictlySortedBy nat_cmp active → AreOf has_ready_in plans active
    → flat_map (ready_at plans) active ≡ all_ready plans
walk_all plans active sp sa are = ap (flat_map (ready_at plans)) (kept_is has_ready_in plans active sp sa are) ∙ walk_over plans plans (stand_all plans sp)

-- ---- the first that waits

abbrev pub first_number : List ℕ → Option ℕ
first_number [] = None
first_number (x ∷ xs) = Some x

find_first : (plans : List (ℕ × Plan)) → first_number (where_passes waits_in plans) ≡ first_waiting plans
find_first [] = refl
find_first (e ∷ es) = by (waits_in e.1) (find_first es)
  where
    by : (b : Bool) → first_number (where_passes waits_in es) ≡ first_waiting es → first_number (keys_of (cond b (e ∷ filter (λ e. waits_in e.1) es) (filter (λ e. waits_in e.1) es))) ≡ option_map (λ e. e.0) (cond b (Some e) (find (λ e. waits_in e.1) es))
    by true more = refl
    by false more = more

pub first_kept : (plans : List (ℕ × Plan)) (finishing : List ℕ) → IsStrictlySortedBy nat_cmp (keys_of plans) → IsStrictlySortedBy nat_cmp finishing → AreOf waits_in plans finishing → first_number finishing ≡ first_waiting plans
first_kept plans finishing sp sf are = ap first_number (kept_is waits_in plans finishing sp sf are) ∙ find_first plans
