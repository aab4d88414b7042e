-- The ready tasks of jobs are those that are ready of their job, each once; and what a job that waits, or a ready task, allows.
use Rattle.std.proofs.Common.{◌≡◌, ℕ, zero, suc, ◌+◌, ◌<◌, ◌≤◌, ◌==◌, Bool, true, false, not, ◌&&◌, ◌||◌, ◌⊎◌, if◌then◌else◌, List, [], ◌∷◌, ◌++◌, map, Option, Some, None, refl, sym, ap, subst, ◌∙◌, arith, inl, inr, true≢false, eq-eqb}
use Rattle.std.specs.List.{AllByRecursion, IsDistinct, enumerate_from, filter, find, flat_map, list_any, range_with_len, slice_get}
use Rattle.std.specs.List.Sorted.{IsStrictlySortedBy}
use Rattle.std.specs.Option.{option_map_or, unwrap_or}
use Rattle.std.specs.Ordering.{nat_cmp}
use Rattle.std.specs.declared.cmp.Ordering.TheVariants.{Less}
use Rattle.std.proofs.lemmas.Bool.{cases_Bool, eqb-true, ltb-true}
use Rattle.std.proofs.lemmas.Bool.Decides.{nat_tests}
use Rattle.std.proofs.lemmas.List.Folds.{list_any-append}
use Rattle.mt_types.specs.declared.document.Phase.{Phase}
use Rattle.mt_types.specs.declared.job.Job.{Job}
use Rattle.mt_types.specs.declared.job.Task.{Task}
use Rattle.mt_model.specs.Feed.{feed}
use Rattle.mt_model.specs.JobSteps.{close_refusal}
use Rattle.mt_model.specs.Rows.{first_refusal, refuse_if}
use Rattle.mt_model.specs.State.{job_at}
use Rattle.mt_types.specs.declared.refusal.Refusal.TheVariants.{AlreadyCommitted, JobState, NotATask, NotComplete}
use Rattle.mt_model.specs.Tasks.{is_committed, is_ready, is_running, is_task, is_task_of, may_run, phases_of, ready, task_count, task_of, waits_finish}
use Rattle.mt_model.proofs.LawfulInputs.{and_left, and_right, and_both}
use Rattle.mt_sched.specs.Plan.{has_task, is_same_task}
use Rattle.mt_sched.specs.Laws.{AJobThatWaits, AReadyTask, ReadyTasksAreApart, ReadyTasksAreReady}

-- ---- tests and lists

both_ways : (a b : Bool) → (a ≡ true → b ≡ true) → (b ≡ true → a ≡ true) → a ≡ b
both_ways true b there back = sym (there refl)
both_ways false true there back = back refl
both_ways false false there back = refl

differ : (a b : ℕ) → (a ≡ b → ⊥) → (a == b) ≡ false
differ a b never = elim (cases_Bool (a == b)) [ inl e ↦ absurd (never (eqb-true a b e)) | inr e ↦ e ]

or_left : (a b : Bool) → a ≡ true → (a || b) ≡ true
or_left true b e = refl
or_left false b e = absurd (true≢false (sym e))

or_right : (a b : Bool) → b ≡ true → (a || b) ≡ true
or_right true b e = refl
or_right false b e = e

or_none_behind : (b : Bool) → (b || false) ≡ b
or_none_behind true = refl
or_none_behind false = refl

cases_eq : (a b : ℕ) → (a ≡ b) ⊎ (a ≡ b → ⊥)
cases_eq a b = elim (cases_Bool (a == b)) [ inl e ↦ inl (eqb-true a b e) | inr e ↦ inr (λ same. true≢false (sym (eq-eqb a b same) ∙ e)) ]

and_false : (a b : Bool) → a ≡ false → (a && b) ≡ false
and_false a b e = ap (λ t. t && b) e

and_false_right : (a b : Bool) → b ≡ false → (a && b) ≡ false
and_false_right true b e = e
and_false_right false b e = refl

module _ {X : Type 0} where
  all_append : (P : X → Type 0) (xs ys : List X) → AllByRecursion P xs → AllByRecursion P ys → AllByRecursion P (xs ++ ys)
  all_append P [] ys p q = q
  all_append P (x ∷ xs) ys p q = (p.0, all_append P xs ys p.1 q)

  all_weaker : (P Q : X → Type 0) → ((x : X) → P x → Q x) → (xs : List X) → AllByRecursion P xs → AllByRecursion Q xs
  all_weaker P Q f [] p = tt
  all_weaker P Q f (x ∷ xs) p = (f x p.0, all_weaker P Q f xs p.1)

  -- an element that passes a test has what all have
  any_has : (P : X → Type 0) (Q : Type 0) (test : X → Bool) → ((x : X) → P x → test x ≡ true → Q) → (xs : List X) → AllByRecursion P xs → list_any test xs ≡ true → Q
  any_has P Q test f [] p e = absurd (true≢false (sym e))
  any_has P Q test f (x ∷ xs) p e = elim (cases_Bool (test x)) [
    | inl passes ↦ f x p.0 passes
    | inr fails ↦ any_has P Q test f xs p.1 (sym (ap (λ b. b || list_any test xs) fails) ∙ e)
  ]

  -- lists that are apart, each apart in itself, one behind the other
  distinct_append : (e : X → X → Bool) (xs ys : List X) → IsDistinct e xs → IsDistinct e ys → AllByRecursion (λ x. AllByRecursion (λ y. e x y ≡ false) ys) xs → IsDistinct e (xs ++ ys)
  unfolding IsDistinct
  distinct_append e [] ys p q apart = q
  distinct_append e (x ∷ xs) ys p q apart = (all_append (λ y. e x y ≡ false) xs ys p.0 apart.0, distinct_append e xs ys p.1 q apart.1)

  -- two lists are apart by what holds of all of each
  apart_by : (e : X → X → Bool) (P Q : X → Type 0) → ((x y : X) → P x → Q y → e x y ≡ false) → (xs ys : List X) → AllByRecursion P xs → AllByRecursion Q ys → AllByRecursion (λ x. AllByRecursion (λ y. e x y ≡ false) ys) xs
  apart_by e P Q f [] ys p q = tt
  apart_by e P Q f (x ∷ xs) ys p q = (all_weaker Q (λ y. e x y ≡ false) (λ y has. f x y p.0 has) ys q, apart_by e P Q f xs ys p.1 q)

-- ---- tasks

same_parts : (t u : Task) → is_same_task t u ≡ true → (t.job ≡ u.job) × (t.phase ≡ u.phase) × (t.place ≡ u.place)
same_parts t u e =
    let rest = and_right (t.job == u.job) _ e in
    (eqb-true t.job u.job (and_left _ _ e), eqb-true t.phase u.phase (and_left _ _ rest), eqb-true t.place u.place (and_right (t.phase == u.phase) _ rest))

same_task : (t u : Task) → t.job ≡ u.job → t.phase ≡ u.phase → t.place ≡ u.place → is_same_task t u ≡ true
same_task t u a b c = and_both _ _ (eq-eqb t.job u.job a) (and_both _ _ (eq-eqb t.phase u.phase b) (eq-eqb t.place u.place c))

other_job : (t u : Task) → (t.job ≡ u.job → ⊥) → is_same_task t u ≡ false
other_job t u never = and_false _ _ (differ t.job u.job never)

other_phase : (t u : Task) → (t.phase ≡ u.phase → ⊥) → is_same_task t u ≡ false
other_phase t u never = and_false_right (t.job == u.job) _ (and_false _ _ (differ t.phase u.phase never))

other_place : (t u : Task) → (t.place ≡ u.place → ⊥) → is_same_task t u ≡ false
other_place t u never = and_false_right (t.job == u.job) _ (and_false_right (t.phase == u.phase) _ (differ t.place u.place never))

-- a number of a list that rises is below those behind it
above : (a : ℕ) (xs : List ℕ) → AllByRecursion (λ y. nat_cmp a y ≡ Less) xs → AllByRecursion (λ y. a < y) xs
above a xs rises = all_weaker (λ y. nat_cmp a y ≡ Less) (λ y. a < y) (λ y less. below a y less) xs rises
  where
    below : (a y : ℕ) → nat_cmp a y ≡ Less → a < y
    below a y less = grind (arith, nat_tests)

all_numbers : {X : Type 0} (f : X → ℕ) (P : ℕ → Type 0) (xs : List X) → AllByRecursion P (map f xs) → AllByRecursion (λ x. P (f x)) xs
all_numbers f P [] p = tt
all_numbers f P (x ∷ xs) p = (p.0, all_numbers f P xs p.1)

module _ {B : Type 0} where
  -- the ready tasks of a phase at these places
  abbrev at_places : Job B → ℕ → List ℕ → List Task
  at_places job phase places = map (task_of job phase) (filter (is_ready job phase) places)

  -- and of phases, numbered from one on
  abbrev of_phases : Job B → List (ℕ × Phase) → List Task
  of_phases job ps = flat_map (λ p. at_places job p.0 (range_with_len 0 (task_count p.1.kind (feed job p.0)))) ps

  -- what all ready tasks of a job have
  abbrev IsOf : Job B → Task → Type 0
  IsOf job t = (t.job ≡ job.number) × (is_ready job t.phase t.place ≡ true)

  -- ---- each is ready

  one_place : (job : Job B) (phase place : ℕ) (places : List ℕ) (b : Bool) → is_ready job phase place ≡ b → AllByRecursion (IsOf job) (at_places job phase places)
      → AllByRecursion (IsOf job) (map (task_of job phase) (if b then place ∷ filter (is_ready job phase) places else filter (is_ready job phase) places))
  one_place job phase place places true is rest = ((refl, is), rest)
  one_place job phase place places false is rest = rest

  places_ready : (job : Job B) (phase : ℕ) (places : List ℕ) → AllByRecursion (IsOf job) (at_places job phase places)
  places_ready job phase [] = tt
  places_ready job phase (place ∷ places) = one_place job phase place places (is_ready job phase place) refl (places_ready job phase places)

  phases_ready : (job : Job B) (ps : List (ℕ × Phase)) → AllByRecursion (IsOf job) (of_phases job ps)
  phases_ready job [] = tt
  phases_ready job (p ∷ ps) = all_append (IsOf job) (at_places job p.0 (range_with_len 0 (task_count p.1.kind (feed job p.0)))) (of_phases job ps) (places_ready job p.0 (range_with_len 0 (task_count p.1.kind (feed job p.0)))) (phases_ready job ps)

  ready_are : (job : Job B) → AllByRecursion (IsOf job) (ready job)
  ready_are job = phases_ready job (phases_of job)

  told : (job : Job B) (t : Task) → has_task (ready job) t ≡ true → (t.job ≡ job.number) × (is_ready job t.phase t.place ≡ true)
  told job t has = any_has (IsOf job) (IsOf job t) (is_same_task t) alike (ready job) (ready_are job) has
    where
      alike : (u : Task) → IsOf job u → is_same_task t u ≡ true → IsOf job t
      alike u is same =
          let parts = same_parts t u same in
          (parts.0 ∙ is.0, (λ i. is_ready job (parts.1 i) (parts.2 i)) ∙ is.1)

  -- ---- each that is ready is there

  place_found : (job : Job B) (phase place : ℕ) (t : Task) → t.job ≡ job.number → t.phase ≡ phase → t.place ≡ place → is_ready job phase place ≡ true
      → (a c : ℕ) → a ≤ place → place < a + c → has_task (at_places job phase (range_with_len a c)) t ≡ true
  place_found job phase place t of at here is a zero from to = absurd (omega (arith, from, to))
  place_found job phase place t of at here is a (suc c) from to =
      found (is_ready job phase a) refl (place_found job phase place t of at here is (a + 1) c)
    where
      later : (a ≡ place → ⊥) → a + 1 ≤ place
      later never = elim (cases_eq a place) [ inl same ↦ absurd (never same) | inr apart ↦ omega (arith, from, apart) ]

      found : (b : Bool) → is_ready job phase a ≡ b → (a + 1 ≤ place → place < a + 1 + c → has_task (at_places job phase (range_with_len (a + 1) c)) t ≡ true)
          → has_task (map (task_of job phase) (if b then a ∷ filter (is_ready job phase) (range_with_len (a + 1) c) else filter (is_ready job phase) (range_with_len (a + 1) c))) t ≡ true
      found true there rest = elim (cases_eq a place) [
        | inl same ↦ or_left (is_same_task t (task_of job phase a)) _ (same_task t (task_of job phase a) of at (here ∙ sym same))
        | inr apart ↦ or_right (is_same_task t (task_of job phase a)) _ (rest (omega (arith, from, apart)) (omega (arith, to)))
      ]
      found false there rest =
          let never : a ≡ place → ⊥ = λ same. true≢false (sym is ∙ (λ i. is_ready job phase (sym same i)) ∙ there) in
          rest (later never) (omega (arith, to))

  phase_found : (job : Job B) (t : Task) → t.job ≡ job.number → (place : ℕ) (p : Phase) (n k : ℕ) (ps : List Phase) → slice_get ps k ≡ Some p → t.phase ≡ n + k
      → t.place ≡ place → is_ready job (n + k) place ≡ true → place < task_count p.kind (feed job (n + k)) → has_task (of_phases job (enumerate_from n ps)) t ≡ true
  phase_found job t of place p n k [] at phase here is within = cc
  phase_found job t of place p n zero (q ∷ ps) at phase here is within =
      let zeroth : n + 0 ≡ n = omega arith in
      let same : q ≡ p = ap (λ o. unwrap_or o q) at in
      let bound : place < task_count q.kind (feed job n) = subst (λ m. place < task_count q.kind (feed job m)) zeroth (subst (λ (x : Phase). place < task_count x.kind (feed job (n + 0))) (sym same) within) in
      let inside : place < 0 + task_count q.kind (feed job n) = omega (arith, bound) in
      list_any-append (is_same_task t) (at_places job n (range_with_len 0 (task_count q.kind (feed job n)))) (of_phases job (enumerate_from (n + 1) ps))
      ∙ or_left _ _ (place_found job n place t of (phase ∙ zeroth) here (subst (λ m. is_ready job m place ≡ true) zeroth is) 0 (task_count q.kind (feed job n)) (omega arith) inside)
  phase_found job t of place p n (suc k) (q ∷ ps) at phase here is within =
      let on : n + suc k ≡ n + 1 + k = omega arith in
      list_any-append (is_same_task t) (at_places job n (range_with_len 0 (task_count q.kind (feed job n)))) (of_phases job (enumerate_from (n + 1) ps))
      ∙ or_right (has_task (at_places job n (range_with_len 0 (task_count q.kind (feed job n)))) t) _
      (phase_found job t of place p (n + 1) k ps at (phase ∙ on) here (subst (λ m. is_ready job m place ≡ true) on is) (subst (λ m. place < task_count p.kind (feed job m)) on within))

  in_phase : (job : Job B) (t : Task) (phase place : ℕ) (o : Option Phase) → slice_get job.document.phases phase ≡ o → is_task_of job phase place o ≡ true
      → (p : Phase) × (slice_get job.document.phases phase ≡ Some p) × (place < task_count p.kind (feed job phase))
  in_phase job t phase place None at is = absurd (true≢false (sym is))
  in_phase job t phase place (Some p) at is = (p, at, ltb-true place (task_count p.kind (feed job phase)) (and_right _ _ is))

  there : (job : Job B) (t : Task) → t.job ≡ job.number → is_ready job t.phase t.place ≡ true → has_task (ready job) t ≡ true
  there job t of is =
      let runs : is_task job t.phase t.place ≡ true = and_right (is_running job) _ (and_left (may_run job t.phase t.place) _ is) in
      let has = in_phase job t t.phase t.place (slice_get job.document.phases t.phase) refl runs in
      let zeroth : t.phase ≡ 0 + t.phase = omega arith in
      phase_found job t of t.place has.0 0 t.phase job.document.phases has.1 zeroth refl (subst (λ m. is_ready job m t.place ≡ true) zeroth is) (subst (λ m. t.place < task_count has.0.kind (feed job m)) zeroth has.2)

  -- ---- all jobs

  abbrev IsAboveAll : ℕ → List (Job B) → Type 0
  IsAboveAll n jobs = AllByRecursion (λ j. n < j.number) jobs

  abbrev Rise : List (Job B) → Type 0
  Rise jobs = IsStrictlySortedBy nat_cmp (map (λ j. j.number) jobs)

  risen : (job : Job B) (jobs : List (Job B)) → Rise (job ∷ jobs) → IsAboveAll job.number jobs × Rise jobs
  unfolding IsStrictlySortedBy
  risen job jobs rise = (all_numbers (λ j. j.number) (λ n. job.number < n) jobs (above job.number (map (λ j. j.number) jobs) rise.0), rise.1)

  none_above : (n : ℕ) (jobs : List (Job B)) → IsAboveAll n jobs → (m : ℕ) → m ≡ n → job_at jobs m ≡ None
  none_above n [] all m is = refl
  none_above n (job ∷ jobs) all m is = ap (λ b. if b then Some job else job_at jobs m) (differ job.number m (λ same. absurd (omega (arith, same, is, all.0)))) ∙ none_above n jobs all.1 m is

  -- the tasks of jobs above a number are of such jobs
  tasks_above : (n : ℕ) (jobs : List (Job B)) → IsAboveAll n jobs → AllByRecursion (λ t. n < t.job) (flat_map ready jobs)
  tasks_above n [] all = tt
  tasks_above n (job ∷ jobs) all =
      all_append (λ t. n < t.job) (ready job) (flat_map ready jobs)
      (all_weaker (IsOf job) (λ t. n < t.job) (λ t is. subst (λ m. n < m) (sym is.0) all.0) (ready job) (ready_are job))
      (tasks_above n jobs all.1)

  abbrev ready_at : List (Job B) → Task → Bool
  ready_at jobs t = option_map_or (λ j. is_ready j t.phase t.place) (job_at jobs t.job) false

  pub ready_tasks_are_ready : ReadyTasksAreReady B
  ready_tasks_are_ready [] rise t = refl
  ready_tasks_are_ready (job ∷ jobs) rise t =
      list_any-append (is_same_task t) (ready job) (flat_map ready jobs)
      ∙ ap (λ b. has_task (ready job) t || b) (ready_tasks_are_ready jobs (risen job jobs rise).1 t)
      ∙ by (job.number == t.job) refl
    where
      by : (b : Bool) → job.number == t.job ≡ b → (has_task (ready job) t || ready_at jobs t) ≡ option_map_or (λ j. is_ready j t.phase t.place) (if b then Some job else job_at jobs t.job) false
      by true e =
          let same : t.job ≡ job.number = sym (eqb-true job.number t.job e) in
          let none : ready_at jobs t ≡ false = ap (λ o. option_map_or (λ j. is_ready j t.phase t.place) o false) (none_above job.number jobs (risen job jobs rise).0 t.job same) in
          ap (λ b. has_task (ready job) t || b) none ∙ or_none_behind (has_task (ready job) t) ∙ both_ways _ _ (λ has. (told job t has).1) (λ is. there job t same is)
      by false e =
          let none : has_task (ready job) t ≡ false = elim (cases_Bool (has_task (ready job) t)) [
            | inl has ↦ absurd (true≢false (sym (eq-eqb job.number t.job (sym (told job t has).0)) ∙ e))
            | inr lacks ↦ lacks
          ] in
          ap (λ b. b || ready_at jobs t) none

  -- ---- they are apart

  places_from : (job : Job B) (phase n a c : ℕ) → n ≤ a → AllByRecursion (λ t. n ≤ t.place) (at_places job phase (range_with_len a c))
  places_from job phase n a zero le = tt
  places_from job phase n a (suc c) le = by (is_ready job phase a) (places_from job phase n (a + 1) c (omega (arith, le)))
    where
      by : (b : Bool) → AllByRecursion (λ t. n ≤ t.place) (at_places job phase (range_with_len (a + 1) c))
          → AllByRecursion (λ t. n ≤ t.place) (map (task_of job phase) (if b then a ∷ filter (is_ready job phase) (range_with_len (a + 1) c) else filter (is_ready job phase) (range_with_len (a + 1) c)))
      by true rest = (le, rest)
      by false rest = rest

  places_apart : (job : Job B) (phase a c : ℕ) → IsDistinct is_same_task (at_places job phase (range_with_len a c))
  unfolding IsDistinct
  places_apart job phase a zero = tt
  places_apart job phase a (suc c) = by (is_ready job phase a) (places_apart job phase (a + 1) c)
    where
      first : AllByRecursion (λ t. is_same_task (task_of job phase a) t ≡ false) (at_places job phase (range_with_len (a + 1) c))
      first = all_weaker (λ t. a + 1 ≤ t.place) (λ t. is_same_task (task_of job phase a) t ≡ false) (λ t above. other_place (task_of job phase a) t (λ same. absurd (omega (arith, same, above)))) _ (places_from job phase (a + 1) (a + 1) c (omega arith))

      by : (b : Bool) → IsDistinct is_same_task (at_places job phase (range_with_len (a + 1) c))
          → IsDistinct is_same_task (map (task_of job phase) (if b then a ∷ filter (is_ready job phase) (range_with_len (a + 1) c) else filter (is_ready job phase) (range_with_len (a + 1) c)))
      by true rest = (first, rest)
      by false rest = rest

  places_of_phase : (job : Job B) (phase : ℕ) (places : List ℕ) → AllByRecursion (λ t. t.phase ≡ phase) (map (task_of job phase) places)
  places_of_phase job phase [] = tt
  places_of_phase job phase (place ∷ places) = (refl, places_of_phase job phase places)

  phases_from : (job : Job B) (n m : ℕ) (ps : List Phase) → n ≤ m → AllByRecursion (λ t. n ≤ t.phase) (of_phases job (enumerate_from m ps))
  phases_from job n m [] le = tt
  phases_from job n m (p ∷ ps) le =
      all_append (λ t. n ≤ t.phase) (at_places job m (range_with_len 0 (task_count p.kind (feed job m)))) (of_phases job (enumerate_from (m + 1) ps))
      (all_weaker (λ t. t.phase ≡ m) (λ t. n ≤ t.phase) (λ t is. omega (arith, is, le)) _ (places_of_phase job m _))
      (phases_from job n (m + 1) ps (omega (arith, le)))

  phases_apart : (job : Job B) (n : ℕ) (ps : List Phase) → IsDistinct is_same_task (of_phases job (enumerate_from n ps))
  unfolding IsDistinct
  phases_apart job n [] = tt
  phases_apart job n (p ∷ ps) =
      let here : List Task = at_places job n (range_with_len 0 (task_count p.kind (feed job n))) in
      let later : List Task = of_phases job (enumerate_from (n + 1) ps) in
      distinct_append is_same_task here later (places_apart job n 0 (task_count p.kind (feed job n))) (phases_apart job (n + 1) ps)
      (apart_by is_same_task (λ t. t.phase ≡ n) (λ u. n + 1 ≤ u.phase) (λ t u is from. other_phase t u (λ same. absurd (omega (arith, same, is, from)))) here later
      (places_of_phase job n _) (phases_from job (n + 1) (n + 1) ps (omega arith)))

  pub ready_tasks_are_apart : ReadyTasksAreApart B
  unfolding IsDistinct
  ready_tasks_are_apart [] rise = tt
  ready_tasks_are_apart (job ∷ jobs) rise =
      let parts = risen job jobs rise in
      distinct_append is_same_task (ready job) (flat_map ready jobs) (phases_apart job 0 job.document.phases) (ready_tasks_are_apart jobs parts.1)
      (apart_by is_same_task (IsOf job) (λ u. job.number < u.job) (λ t u is above. other_job t u (λ same. absurd (omega (arith, same, is.0, above)))) (ready job) (flat_map ready jobs)
      (ready_are job) (tasks_above job.number jobs parts.0))

  -- ---- what they allow

  found_is : (jobs : List (Job B)) → Rise jobs → (j : Job B) → find waits_finish jobs ≡ Some j → (waits_finish j ≡ true) × (job_at jobs j.number ≡ Some j)
  found_is [] rise j e = cc
  found_is (job ∷ jobs) rise j e = by (waits_finish job) refl e (found_is jobs (risen job jobs rise).1 j)
    where
      by : (b : Bool) → waits_finish job ≡ b → (if b then Some job else find waits_finish jobs) ≡ Some j → (find waits_finish jobs ≡ Some j → (waits_finish j ≡ true) × (job_at jobs j.number ≡ Some j))
          → (waits_finish j ≡ true) × (job_at (job ∷ jobs) j.number ≡ Some j)
      by true waits at rest =
          let same : job ≡ j = ap (λ o. unwrap_or o job) at in (
            subst (λ (x : Job B). waits_finish x ≡ true) same waits,
            ap (λ b. if b then Some job else job_at jobs j.number) (eq-eqb job.number j.number (λ i. (same i).number)) ∙ at,
          )
      by false waits at rest =
          let found = rest at in
          (found.0, ap (λ b. if b then Some job else job_at jobs j.number) (differ job.number j.number (λ same. first_apart same found.1)) ∙ found.1)
        where
          never : None ≡ Some j → ⊥
          never e = cc

          first_apart : job.number ≡ j.number → job_at jobs j.number ≡ Some j → ⊥
          first_apart same at = never (sym (none_above job.number jobs (risen job jobs rise).0 j.number (sym same)) ∙ at)

  closes : (j : Job B) → waits_finish j ≡ true → close_refusal false j ≡ None
  closes j waits = closed (is_running j) (waits_finish j) (and_left _ _ (and_left _ _ waits)) waits
    where
      closed : (r w : Bool) → r ≡ true → w ≡ true → first_refusal (refuse_if (not r) JobState) (refuse_if (true && not w) NotComplete) ≡ None
      closed true true p q = refl
      closed true false p q = absurd (true≢false (sym q))
      closed false w p q = absurd (true≢false (sym p))

  pub a_job_that_waits : AJobThatWaits B
  a_job_that_waits jobs rise j e = let found = found_is jobs rise j e in (found.1, closes j found.0)

  pub a_ready_task : AReadyTask B
  a_ready_task j phase place is =
      let runs = and_left (may_run j phase place) _ is in
      committed (is_running j) (is_task j phase place) (is_committed j.trace phase place) (and_left _ _ runs) (and_right (is_running j) _ runs) (and_right (may_run j phase place) _ is)
    where
      committed : (r t c : Bool) → r ≡ true → t ≡ true → not c ≡ true
          → first_refusal (refuse_if (not r) JobState) (first_refusal (refuse_if (not (r && t)) NotATask) (refuse_if c AlreadyCommitted)) ≡ None
      committed true true true p q s = absurd (true≢false (sym s))
      committed true true false p q s = refl
      committed true false c p q s = absurd (true≢false (sym q))
      committed false t c p q s = absurd (true≢false (sym p))
