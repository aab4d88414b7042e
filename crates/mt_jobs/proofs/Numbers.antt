-- Jobs by their numbers, which rise.
use Rattle.std.proofs.Common.{◌≡◌, ◌⊎◌, inl, inr, ℕ, ◌<◌, ◌≤◌, ◌==◌, Bool, true, false, cond, List, [], ◌∷◌, length, map, set, get_or, Option, Some, None, Result, Ok, Err, refl, sym, ap, subst, ◌∙◌, arith, zero, suc, eq-eqb, true≢false}
use Rattle.std.specs.List.{AllByRecursion, filter, find, slice_get}
use Rattle.std.specs.List.Sorted.{IsBinarySearchResult, IsSearchInRange, IsStrictlySortedBy}
use Rattle.std.specs.Option.{option_map, unwrap_or}
use Rattle.std.specs.Cmp.{nat_cmp_is}
use Rattle.std.specs.Ordering.{nat_cmp, is_eq, ordering_index}
use Rattle.std.specs.declared.cmp.Ordering.{Ordering}
use Rattle.std.specs.declared.cmp.Ordering.TheVariants.{Less, Equal, Greater}
use Rattle.std.proofs.lemmas.Bool.{cases_lt, eqb-true}
use Rattle.std.proofs.lemmas.Option.{get_or_from_slice_get, slice_get-get_or, slice_get_within}
use Rattle.std.proofs.lemmas.Map.Keys.{sorted_head, sorted_tail}
use Rattle.mt_types.specs.declared.job.Job.{Job}
use Rattle.mt_model.specs.State.{job_at, with_job}
use Rattle.mt_model.specs.Tasks.{is_running}
use Rattle.mt_model.proofs.Maps.{find-map}
use Rattle.mt_model.proofs.Shares.{beyond}
use Rattle.mt_sched.specs.Plans.{plan_at}
use Rattle.mt_sched.specs.Plan.{Plan}
use Rattle.mt_sched.specs.PlanOfJob.{plan_of, plans_of}
use Rattle.mt_sched.proofs.Filters.{differ}
use Rattle.mt_sched.proofs.Orders.{same_test}
use Rattle.mt_feeds.specs.declared.kept.FedJob.{FedJob}
use Rattle.mt_jobs.specs.JobList.{IsFound, jobs_in, numbers_of}

module _ {B : Type 0} where
  -- the job of a number, with and without what is kept beside it
  pub job_of_kept : (number : ℕ) (kept : List (FedJob B)) → job_at (jobs_in kept) number ≡ option_map (λ k. k.job) (find (λ k. k.job.number == number) kept)
  job_of_kept number kept = find-map (λ (k : FedJob B). k.job) (λ j. j.number == number) kept

  -- the plan of a job that runs, if there is one
  abbrev pub plan_if : Option (Job B) → Option Plan
  plan_if None = None
  plan_if (Some job) = cond (is_running job) (Some (plan_of job)) None

  -- no job beyond a number that is below all has it
  no_job : (number : ℕ) (jobs : List (Job B)) → AllByRecursion (λ n. nat_cmp number n ≡ Less) (numbers_of jobs) → job_at jobs number ≡ None
  no_job number [] above = refl
  no_job number (j ∷ js) above =
      let away : (j.number == number) ≡ false = sym (same_test number j.number) ∙ ap is_eq above.0 in
      ap (λ b. cond b (Some j) (job_at js number)) away ∙ no_job number js above.1

  pub no_plan : (number : ℕ) (jobs : List (Job B)) → AllByRecursion (λ n. nat_cmp number n ≡ Less) (numbers_of jobs) → plan_at (plans_of jobs) number ≡ None
  no_plan number [] above = refl
  no_plan number (j ∷ js) above = by (is_running j) (no_plan number js above.1)
    where
      by : (b : Bool) → plan_at (plans_of js) number ≡ None → plan_at (map (λ j. (j.number, plan_of j)) (cond b (j ∷ filter is_running js) (filter is_running js))) number ≡ None
      by true more = ap (λ o. cond (is_eq o) (Some (plan_of j)) (plan_at (plans_of js) number)) above.0 ∙ more
      by false more = more

  plan_case : (number : ℕ) (j : Job B) (js : List (Job B)) (b r : Bool) → AllByRecursion (λ n. nat_cmp j.number n ≡ Less) (numbers_of js) → j.number == number ≡ b → is_running j ≡ r
      → plan_at (plans_of js) number ≡ plan_if (job_at js number)
      → plan_at (map (λ j. (j.number, plan_of j)) (cond r (j ∷ filter is_running js) (filter is_running js))) number ≡ plan_if (cond b (Some j) (job_at js number))
  plan_case number j js true true above at runs more =
      ap (λ t. cond t (Some (plan_of j)) (plan_at (plans_of js) number)) (same_test number j.number ∙ at)
      ∙ sym (ap (λ r. cond r (Some (plan_of j)) None) runs)
  plan_case number j js true false above at runs more =
      let same : j.number ≡ number = eqb-true j.number number at in
      no_plan number js (subst (λ m. AllByRecursion (λ n. nat_cmp m n ≡ Less) (numbers_of js)) same above)
      ∙ sym (ap (λ r. cond r (Some (plan_of j)) None) runs)
  plan_case number j js false true above at runs more =
      ap (λ t. cond t (Some (plan_of j)) (plan_at (plans_of js) number)) (same_test number j.number ∙ at) ∙ more
  plan_case number j js false false above at runs more = more

  -- the plan of a number is that of its job, while the job runs
  pub plan_where : (number : ℕ) (jobs : List (Job B)) → IsStrictlySortedBy nat_cmp (numbers_of jobs) → plan_at (plans_of jobs) number ≡ plan_if (job_at jobs number)
  plan_where number [] rising = refl
  plan_where number (j ∷ js) rising =
      plan_case number j js (j.number == number) (is_running j) (sorted_head nat_cmp j.number (numbers_of js) rising) refl refl
      (plan_where number js (sorted_tail nat_cmp j.number (numbers_of js) rising))

  -- ---- one job changes

  others_stay : (number : ℕ) (change : Job B → Job B) (jobs : List (Job B)) → AllByRecursion (λ n. nat_cmp number n ≡ Less) (numbers_of jobs) → with_job jobs number change ≡ jobs
  others_stay number change [] above = refl
  others_stay number change (j ∷ js) above =
      let away : (j.number == number) ≡ false = sym (same_test number j.number) ∙ ap is_eq above.0 in
      ap (λ b. cond b (change j) j ∷ with_job js number change) away ∙ ap (λ l. j ∷ l) (others_stay number change js above.1)

  pub below_first : (number k : ℕ) (x : Job B) (xs : List (Job B)) → AllByRecursion (λ n. nat_cmp number n ≡ Less) (numbers_of xs) → slice_get xs k ≡ Some x → (x.number == number) ≡ false
  below_first number k x [] above at = cc
  below_first number zero x (y ∷ ys) above at =
      let same : y ≡ x = ap (λ o. unwrap_or o y) at in
      ap (λ (j : Job B). j.number == number) (sym same) ∙ sym (same_test number y.number) ∙ ap is_eq above.0
  below_first number (suc k) x (y ∷ ys) above at = below_first number k x ys above.1 at

  -- to write the changed job at its place is to change the job of its number
  pub with_job_is : (number : ℕ) (change : Job B → Job B) (jobs : List (Job B)) (k : ℕ) (job new : Job B) → IsStrictlySortedBy nat_cmp (numbers_of jobs) → slice_get jobs k ≡ Some job → job.number ≡ number → new ≡ change job
      → set jobs k new ≡ with_job jobs number change
  with_job_is number change [] k job new rising at is done = cc
  with_job_is number change (j ∷ js) zero job new rising at is done =
      let same : j ≡ job = ap (λ o. unwrap_or o j) at in
      let here : j.number ≡ number = ap (λ (x : Job B). x.number) same ∙ is in
      ap (λ x. x ∷ js) (done ∙ ap change (sym same))
      ∙ ap (λ l. change j ∷ l) (sym (others_stay number change js (subst (λ m. AllByRecursion (λ n. nat_cmp m n ≡ Less) (numbers_of js)) here (sorted_head nat_cmp j.number (numbers_of js) rising))))
      ∙ ap (λ b. cond b (change j) j ∷ with_job js number change) (sym (eq-eqb j.number number here))
  with_job_is number change (j ∷ js) (suc k) job new rising at is done =
      let off : (job.number == j.number) ≡ false = below_first j.number k job js (sorted_head nat_cmp j.number (numbers_of js) rising) at in
      ap (λ l. j ∷ l) (with_job_is number change js k job new (sorted_tail nat_cmp j.number (numbers_of js) rising) at is done)
      ∙ ap (λ b. cond b (change j) j ∷ with_job js number change)
      (sym (differ j.number number (λ e. true≢false (sym (eq-eqb job.number j.number (is ∙ sym e)) ∙ off)) (j.number == number) refl))

  -- where there is no such job, nothing changes
  pub with_no_job : (number : ℕ) (change : Job B → Job B) (jobs : List (Job B)) → job_at jobs number ≡ None → with_job jobs number change ≡ jobs
  with_no_job number change [] none = refl
  with_no_job number change (j ∷ js) none = by (j.number == number) none (with_no_job number change js)
    where
      by : (b : Bool) → cond b (Some j) (job_at js number) ≡ None → (job_at js number ≡ None → with_job js number change ≡ js) → cond b (change j) j ∷ with_job js number change ≡ j ∷ js
      by true none more = cc
      by false none more = ap (λ l. j ∷ l) (more none)

  -- a change that keeps numbers keeps the list of them
  pub same_numbers : (number : ℕ) (change : Job B → Job B) (jobs : List (Job B)) → ((j : Job B) → (change j).number ≡ j.number) → numbers_of (with_job jobs number change) ≡ numbers_of jobs
  same_numbers number change [] same = refl
  same_numbers number change (j ∷ js) same = λ i. by (j.number == number) i ∷ same_numbers number change js same i
    where
      by : (b : Bool) → (cond b (change j) j).number ≡ j.number
      by true = same j
      by false = refl

-- ---- a binary search

-- what a binary search by numbers answers
abbrev pub place_of : Result ℕ ℕ → Option ℕ
place_of (Ok i) = Some i
place_of (Err i) = None

index_bound : (o : Ordering) → ordering_index o ≤ 2
index_bound Less = omega arith
index_bound Equal = omega arith
index_bound Greater = omega arith

-- what a comparison with a number answers rises
index_rises : (x a b : ℕ) → a ≤ b → ordering_index (nat_cmp a x) ≤ ordering_index (nat_cmp b x)
index_rises x a b le = by (cases_lt a x) (cases_lt x b)
  where
    by : (a < x) ⊎ (x ≤ a) → (x < b) ⊎ (b ≤ x) → ordering_index (nat_cmp a x) ≤ ordering_index (nat_cmp b x)
    by (inl less) other = subst (λ o. ordering_index o ≤ ordering_index (nat_cmp b x)) (nat_cmp_is a x Less less) (omega arith)
    by (inr ge) (inl more) = subst (λ o. ordering_index (nat_cmp a x) ≤ ordering_index o) (nat_cmp_is b x Greater more) (index_bound (nat_cmp a x))
    by (inr ge) (inr least) = let same : a ≡ b = omega (arith, le, ge, least) in subst (λ c. ordering_index (nat_cmp a x) ≤ ordering_index (nat_cmp c x)) same (omega arith)

equal_is : (a x : ℕ) → nat_cmp a x ≡ Equal → a ≡ x
equal_is a x e = by (cases_lt a x) (cases_lt x a)
  where
    by : (a < x) ⊎ (x ≤ a) → (x < a) ⊎ (a ≤ x) → a ≡ x
    by (inl less) other = let never : Less ≡ Equal = nat_cmp_is a x Less less ∙ e in cc
    by (inr ge) (inl more) = let never : Greater ≡ Equal = nat_cmp_is a x Greater more ∙ e in cc
    by (inr ge) (inr le) = omega (arith, ge, le)

module _ {B : Type 0} where
  abbrev number_at : FedJob B → ℕ
  number_at k = k.job.number

  below_all : (k : FedJob B) (ks : List (FedJob B)) → IsStrictlySortedBy nat_cmp (numbers_of (jobs_in (k ∷ ks))) → (j : ℕ) (d : FedJob B) → j < length ks → number_at k ≤ number_at (get_or ks j d)
  below_all k ks rising j d less = by ks (sorted_head nat_cmp k.job.number (numbers_of (jobs_in ks)) rising) j less
    where
      by : (xs : List (FedJob B)) → AllByRecursion (λ n. nat_cmp k.job.number n ≡ Less) (numbers_of (jobs_in xs)) → (j : ℕ) → j < length xs → number_at k ≤ number_at (get_or xs j d)
      by [] above j less = absurd (omega arith)
      by (x ∷ xs) above zero less = less_from (cases_lt k.job.number x.job.number)
        where
          less_from : (k.job.number < x.job.number) ⊎ (x.job.number ≤ k.job.number) → number_at k ≤ number_at x
          less_from (inl under) = omega (arith, under)
          less_from (inr ge) = index_le (cases_lt x.job.number k.job.number)
            where
              index_le : (x.job.number < k.job.number) ⊎ (k.job.number ≤ x.job.number) → number_at k ≤ number_at x
              index_le (inl more) = let never : Greater ≡ Less = nat_cmp_is k.job.number x.job.number Greater more ∙ above.0 in cc
              index_le (inr le) = le
      by (x ∷ xs) above (suc j) less = by xs above.1 j (omega (arith, less))

  -- numbers rise from place to place
  rises : (kept : List (FedJob B)) → IsStrictlySortedBy nat_cmp (numbers_of (jobs_in kept)) → (i j : ℕ) (d : FedJob B) → i ≤ j → j < length kept → number_at (get_or kept i d) ≤ number_at (get_or kept j d)
  rises [] rising i j d le less = absurd (omega arith)
  rises (k ∷ ks) rising zero zero d le less = omega arith
  rises (k ∷ ks) rising zero (suc j) d le less = below_all k ks rising j d (omega (arith, less))
  rises (k ∷ ks) rising (suc i) zero d le less = absurd (omega arith)
  rises (k ∷ ks) rising (suc i) (suc j) d le less = rises ks (sorted_tail nat_cmp k.job.number (numbers_of (jobs_in ks)) rising) i j d (omega (arith, le)) (omega (arith, less))

  find_none_at : (number : ℕ) (kept : List (FedJob B)) → ((i : ℕ) (k : FedJob B) → slice_get kept i ≡ Some k → (k.job.number == number) ≡ false) → find (λ k. k.job.number == number) kept ≡ None
  find_none_at number [] never = refl
  find_none_at number (k ∷ ks) never =
      ap (λ b. cond b (Some k) (find (λ k. k.job.number == number) ks)) (never 0 k refl) ∙ find_none_at number ks (λ i x at. never (suc i) x at)

  later_is_other : (number : ℕ) (i : ℕ) (k : FedJob B) (ks : List (FedJob B)) → AllByRecursion (λ n. nat_cmp number n ≡ Less) (numbers_of (jobs_in ks)) → slice_get ks i ≡ Some k → k.job.number ≡ number → ⊥
  later_is_other number i k [] above at same = cc
  later_is_other number zero k (x ∷ xs) above at same =
      let is : x ≡ k = ap (λ o. unwrap_or o x) at in
      let off : (x.job.number == number) ≡ false = sym (same_test number x.job.number) ∙ ap is_eq above.0 in
      true≢false (sym (eq-eqb x.job.number number (ap (λ (c : FedJob B). c.job.number) is ∙ same)) ∙ off)
  later_is_other number (suc i) k (x ∷ xs) above at same = later_is_other number i k xs above.1 at same

  -- the job at a place is the first of its number
  find_here : (number : ℕ) (kept : List (FedJob B)) (i : ℕ) (k : FedJob B) → IsStrictlySortedBy nat_cmp (numbers_of (jobs_in kept)) → slice_get kept i ≡ Some k → k.job.number ≡ number → find (λ k. k.job.number == number) kept ≡ Some k
  find_here number [] i k rising at same = cc
  find_here number (x ∷ xs) zero k rising at same =
      let is : x ≡ k = ap (λ o. unwrap_or o x) at in
      ap (λ b. cond b (Some x) (find (λ k. k.job.number == number) xs)) (eq-eqb x.job.number number (ap (λ (c : FedJob B). c.job.number) is ∙ same)) ∙ ap Some is
  find_here number (x ∷ xs) (suc i) k rising at same =
      ap (λ b. cond b (Some x) (find (λ k. k.job.number == number) xs))
      (differ x.job.number number (λ e. later_is_other x.job.number i k xs (sorted_head nat_cmp x.job.number (numbers_of (jobs_in xs)) rising) at (same ∙ sym e)) (x.job.number == number) refl)
      ∙ find_here number xs i k (sorted_tail nat_cmp x.job.number (numbers_of (jobs_in xs)) rising) at same

  ok_case : (number : ℕ) (kept : List (FedJob B)) (i : ℕ) → IsStrictlySortedBy nat_cmp (numbers_of (jobs_in kept)) → ((d : FedJob B) → nat_cmp (number_at (get_or kept i d)) number ≡ Equal) → i < length kept
      → (o : Option (FedJob B)) → slice_get kept i ≡ o → IsFound number kept (Some i)
  ok_case number kept i rising equal less None at = absurd (let past = beyond kept i at in omega (arith, past, less))
  ok_case number kept i rising equal less (Some k) at =
      let here : get_or kept i k ≡ k = get_or_from_slice_get kept i k k at in
      let same : k.job.number ≡ number = equal_is k.job.number number (ap (λ (c : FedJob B). nat_cmp c.job.number number) (sym here) ∙ equal k) in
      record { there = at ∙ sym (find_here number kept i k rising at same); within = less }

  err_case : (number : ℕ) (kept : List (FedJob B)) (i : ℕ) → ((k : ℕ) (d : FedJob B) → 0 ≤ k → k < i → nat_cmp (number_at (get_or kept k d)) number ≡ Less) → ((k : ℕ) (d : FedJob B) → i ≤ k → k < length kept → nat_cmp (number_at (get_or kept k d)) number ≡ Greater)
      → (j : ℕ) (k : FedJob B) → slice_get kept j ≡ Some k → (k.job.number == number) ≡ false
  err_case number kept i low high j k at = by (cases_lt j i)
    where
      here : get_or kept j k ≡ k
      here = get_or_from_slice_get kept j k k at

      off : (o : Ordering) → nat_cmp (number_at (get_or kept j k)) number ≡ o → (o ≡ Equal → ⊥) → (k.job.number == number) ≡ false
      off o is never = differ k.job.number number (λ same. never (sym is ∙ ap (λ (c : FedJob B). nat_cmp c.job.number number) here ∙ sym (nat_cmp_is k.job.number number Equal same))) (k.job.number == number) refl

      by : (j < i) ⊎ (i ≤ j) → (k.job.number == number) ≡ false
      by (inl less) = off Less (low j k (omega arith) less) (λ e. cc)
      by (inr le) = off Greater (high j k le (slice_get_within kept j k at)) (λ e. cc)

  pub searched : (number : ℕ) (kept : List (FedJob B)) (r : Result ℕ ℕ) → IsStrictlySortedBy nat_cmp (numbers_of (jobs_in kept)) → IsSearchInRange r (length kept) → IsBinarySearchResult (λ k. nat_cmp (number_at k) number) kept r → IsFound number kept (place_of r)
  searched number kept (Ok i) rising within found = ok_case number kept i rising found within (slice_get kept i) refl
  searched number kept (Err i) rising within found =
      let parts = found (λ a b d le less. index_rises number (number_at (get_or kept a d)) (number_at (get_or kept b d)) (rises kept rising a b d le less)) in
      record { there = sym (find_none_at number kept (err_case number kept i parts.0 parts.1)); within = tt }

module _ {B : Type 0} where
  -- ---- the job that is found

  -- where it stands, that it is the one of the number, and that it has the number
  pub record IsJobAt (number : ℕ) (kept : List (FedJob B)) (k : ℕ) (old : FedJob B) : Type 0 where
    pub there : slice_get kept k ≡ Some old
    pub job : job_at (jobs_in kept) number ≡ Some old.job
    pub number_is : old.job.number ≡ number

  find_true : (t : FedJob B → Bool) (xs : List (FedJob B)) (x : FedJob B) → find t xs ≡ Some x → t x ≡ true
  find_true t [] x is = cc
  find_true t (y ∷ ys) x is = by (t y) refl is (find_true t ys x)
    where
      by : (b : Bool) → t y ≡ b → cond b (Some y) (find t ys) ≡ Some x → (find t ys ≡ Some x → t x ≡ true) → t x ≡ true
      by true e is more = ap t (sym (ap (λ o. unwrap_or o y) is)) ∙ e
      by false e is more = more is

  pub found_job : (number : ℕ) (kept : List (FedJob B)) (k : ℕ) (old : FedJob B) → IsFound number kept (Some k) → old ≡ get_or kept k old → IsJobAt number kept k old
  found_job number kept k old found is =
      let at : slice_get kept k ≡ Some old = slice_get-get_or kept k old found.within ∙ ap (λ x. Some x) (sym is) in
      let first : find (λ x. x.job.number == number) kept ≡ Some old = sym found.there ∙ at in
      record {
        there = at;
        job = job_of_kept number kept ∙ ap (option_map (λ (x : FedJob B). x.job)) first;
        number_is = eqb-true old.job.number number (find_true (λ x. x.job.number == number) kept old first);
      }

  pub found_none : (number : ℕ) (kept : List (FedJob B)) → IsFound number kept None → job_at (jobs_in kept) number ≡ None
  found_none number kept found = job_of_kept number kept ∙ ap (option_map (λ (x : FedJob B). x.job)) (sym found.there)
