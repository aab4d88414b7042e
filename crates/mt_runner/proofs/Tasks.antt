-- Tasks that are the same, and those of a list.
use Rattle.std.proofs.Common.{◌≡◌, ◌==◌, inl, inr, ℕ, ◌≤◌, Bool, true, false, not, cond, ◌&&◌, List, [], ◌∷◌, ◌++◌, length, map, refl, ap, sym, subst, ◌∙◌, Option, Some, None, eq-eqb, arith, zero, suc, ◌+◌, ◌<◌, take, get_or}
use Rattle.std.specs.Prelude.{is_some, ◌||◌}
use Rattle.std.specs.Cmp.{IsEquivalence}
use Rattle.std.specs.List.{AllByRecursion, IsDistinct, find, list_any}
use Rattle.std.specs.Option.{option_or}
use Rattle.std.specs.Set.{is_member}
use Rattle.std.proofs.lemmas.List.{take_more}
use Rattle.std.proofs.lemmas.List.Folds.{find-append}
use Rattle.std.proofs.lemmas.Map.Made.{length-le_from_is_member}
use Rattle.std.proofs.lemmas.Bool.{eqb-true}
use Rattle.mt_types.specs.declared.job.Task.{Task}
use Rattle.mt_sched.specs.Plan.{first_but, has_task, is_same_task}
use Rattle.mt_runner.proofs.Lists.{In}

and_left : (a b : Bool) → (a && b) ≡ true → a ≡ true
and_left true b e = refl
and_left false b e = e

and_right : (a b : Bool) → (a && b) ≡ true → b ≡ true
and_right true b e = e
and_right false b e = cc

-- the same task is one task
pub one_task : (t u : Task) → is_same_task t u ≡ true → t ≡ u
one_task t u e =
    let rest = and_right (t.job == u.job) _ e in
    let job : t.job ≡ u.job = eqb-true t.job u.job (and_left _ _ e) in
    let phase : t.phase ≡ u.phase = eqb-true t.phase u.phase (and_left _ _ rest) in
    let place : t.place ≡ u.place = eqb-true t.place u.place (and_right (t.phase == u.phase) _ rest) in
    λ i. record { job = job i; phase = phase i; place = place i }

self_task : (t : Task) → is_same_task t t ≡ true
self_task t = ap (λ (b : Bool). b && ((t.phase == t.phase) && (t.place == t.place))) (eq-eqb t.job t.job refl)
    ∙ (ap (λ (b : Bool). b && (t.place == t.place)) (eq-eqb t.phase t.phase refl) ∙ eq-eqb t.place t.place refl)

swapped : (a b : ℕ) → (a == b) ≡ (b == a)
swapped a b = grind arith

symmetric : (t u : Task) → is_same_task t u ≡ is_same_task u t
symmetric t u =
    ap (λ (b : Bool). b && ((t.phase == u.phase) && (t.place == u.place))) (swapped t.job u.job)
    ∙ (ap (λ (b : Bool). (u.job == t.job) && (b && (t.place == u.place))) (swapped t.phase u.phase)
    ∙ ap (λ (b : Bool). (u.job == t.job) && ((u.phase == t.phase) && b)) (swapped t.place u.place))

pub same_task_equiv : IsEquivalence is_same_task
same_task_equiv = record {
  refl = self_task;
  symm = symmetric;
  congr = λ x y z e. ap (λ (t : Task). is_same_task t z) (one_task x y e);
}

or_true : (a b : Bool) → b ≡ true → (a || b) ≡ true
or_true true b e = refl
or_true false b e = e

-- a member is among them
pub has_in : (ts : List Task) (t : Task) → In t ts → has_task ts t ≡ true
has_in [] t h = absurd h
has_in (u ∷ ts) t (inl e) = ap (λ (b : Bool). b || has_task ts t) (subst (λ (v : Task). is_same_task t v ≡ true) (sym e) (self_task t))
has_in (u ∷ ts) t (inr h) = or_true (is_same_task t u) (has_task ts t) (has_in ts t h)

-- what is found passes and is a member; where nothing is, none passes
pub record Found {X : Type 0} (p : X → Bool) (xs : List X) (x : X) : Type 0 where
  pub passes : p x ≡ true
  pub there : In x xs

pub found : {X : Type 0} (p : X → Bool) (xs : List X) (x : X) → find p xs ≡ Some x → Found p xs x
found p [] x e = cc
found {X} p (y ∷ ys) x e = by (p y) refl e (λ r. found p ys x r)
  where
    by : (b : Bool) → p y ≡ b → cond {A = Option X} b (Some y) (find p ys) ≡ Some x → (find p ys ≡ Some x → Found p ys x) → Found p (y ∷ ys) x
    by true is e rest = let same : y ≡ x = cc in record { passes = subst (λ (z : X). p z ≡ true) same is; there = inl same }
    by false is e rest = let f = rest e in record { passes = f.passes; there = inr f.there }

pub none_found : {X : Type 0} (p : X → Bool) (xs : List X) → find p xs ≡ None → AllByRecursion (λ x. p x ≡ false) xs
none_found p [] e = tt
none_found {X} p (y ∷ ys) e = by (p y) refl e (λ r. none_found p ys r)
  where
    by : (b : Bool) → p y ≡ b → cond {A = Option X} b (Some y) (find p ys) ≡ None → (find p ys ≡ None → AllByRecursion (λ x. p x ≡ false) ys) → (p y ≡ false) × AllByRecursion (λ x. p x ≡ false) ys
    by true is e rest = cc
    by false is e rest = (is, rest e)

not_true : (b : Bool) → not b ≡ true → b ≡ false
not_true true e = sym e
not_true false e = refl

not_false : (b : Bool) → not b ≡ false → b ≡ true
not_false true e = refl
not_false false e = sym e

-- the first task that is not skipped is one of them, and not skipped
pub next_there : (skip tasks : List Task) (t : Task) → first_but skip tasks ≡ Some t → has_task tasks t ≡ true
next_there skip tasks t e = has_in tasks t (found (λ u. not (has_task skip u)) tasks t e).there

pub next_new : (skip tasks : List Task) (t : Task) → first_but skip tasks ≡ Some t → has_task skip t ≡ false
next_new skip tasks t e = not_true (has_task skip t) (found (λ u. not (has_task skip u)) tasks t e).passes

-- where there is none, all are skipped
all_skipped : (skip tasks : List Task) → AllByRecursion (λ u. not (has_task skip u) ≡ false) tasks → (q : Task) → has_task tasks q ≡ true → has_task skip q ≡ true
all_skipped skip [] a q h = cc
all_skipped skip (u ∷ us) a q h = by (is_same_task q u) refl h (λ r. all_skipped skip us a.1 q r)
  where
    by : (b : Bool) → is_same_task q u ≡ b → (b || has_task us q) ≡ true → (has_task us q ≡ true → has_task skip q ≡ true) → has_task skip q ≡ true
    by true is h rest = subst (λ (v : Task). has_task skip v ≡ true) (sym (one_task q u is)) (not_false (has_task skip u) a.0)
    by false is h rest = rest h

pub none_left : (skip tasks : List Task) → first_but skip tasks ≡ None → (q : Task) → has_task tasks q ≡ true → has_task skip q ≡ true
none_left skip tasks e = all_skipped skip tasks (none_found (λ u. not (has_task skip u)) tasks e)

-- distinct tasks that all are among others are no more than those
pub no_more : (xs ys : List Task) → IsDistinct is_same_task xs → ((q : Task) → has_task xs q ≡ true → has_task ys q ≡ true) → length xs ≤ length ys
no_more xs ys d all = length-le_from_is_member same_task_equiv xs ys d all

-- what is found first stands behind elements that do not pass
pub find_at : {X : Type 0} (p : X → Bool) (xs : List X) (i : ℕ) (d : X) → find p (take i xs) ≡ None → i < length xs → p (get_or xs i d) ≡ true → find p xs ≡ Some (get_or xs i d)
find_at p [] i d none less is = absurd (omega arith)
find_at {X} p (x ∷ xs) zero d none less is = ap (λ (b : Bool). cond {A = Option X} b (Some x) (find p xs)) is
find_at {X} p (x ∷ xs) (suc i) d none less is = by (p x) none (λ n. find_at p xs i d n (omega (arith, less)) is)
  where
    by : (b : Bool) → cond {A = Option X} b (Some x) (find p (take i xs)) ≡ None → (find p (take i xs) ≡ None → find p xs ≡ Some (get_or xs i d)) → cond {A = Option X} b (Some x) (find p xs) ≡ Some (get_or xs i d)
    by true n rest = cc
    by false n rest = rest n

pub find_more : {X : Type 0} (p : X → Bool) (xs : List X) (i : ℕ) (d : X) → find p (take i xs) ≡ None → i < length xs → p (get_or xs i d) ≡ false → find p (take (i + 1) xs) ≡ None
find_more {X} p xs i d none less is =
    ap (find p) (take_more xs i d less) ∙ (find-append p (take i xs) (get_or xs i d ∷ []) ∙ (ap (λ (o : Option X). option_or o (find p (get_or xs i d ∷ []))) none
    ∙ ap (λ (b : Bool). cond {A = Option X} b (Some (get_or xs i d)) None) is))
