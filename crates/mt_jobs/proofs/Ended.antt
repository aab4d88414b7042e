-- What is kept of all jobs, where one of them ends.
use Rattle.std.proofs.Common.{◌≡◌, ℕ, ◌<◌, ◌^◌, ◌==◌, Bool, true, false, not, cond, List, [], ◌∷◌, set, Some, refl, sym, ap, subst, ◌∙◌, zero, suc, eq-eqb, true≢false}
use Rattle.std.specs.Prelude.{OnOk, OnErr, Result, Ok, Err}
use Rattle.std.specs.List.{AllByRecursion, filter, slice_get}
use Rattle.std.specs.List.Sorted.{IsStrictlySortedBy}
use Rattle.std.specs.Option.{unwrap_or}
use Rattle.std.specs.BTreeMap.{is_at}
use Rattle.std.specs.BTreeSet.{insert_key}
use Rattle.std.specs.Cmp.{nat_cmp_is}
use Rattle.std.specs.Ordering.{nat_cmp, is_eq, match_ordering, ordering_reverse}
use Rattle.std.specs.Set.{remove_key}
use Rattle.std.specs.declared.cmp.Ordering.TheVariants.{Less, Equal, Greater}
use Rattle.std.proofs.lemmas.Cmp.{nat_cmp_total}
use Rattle.std.proofs.lemmas.List.Elements.{All-set}
use Rattle.std.proofs.lemmas.Map.Keys.{sorted_head, sorted_tail}
use Rattle.mt_types.specs.declared.job.Job.{Job}
use Rattle.mt_model.specs.JobSteps.{done_at}
use Rattle.mt_model.specs.Tasks.{is_running}
use Rattle.mt_sched.specs.Plan.{Plan}
use Rattle.mt_sched.specs.PlanOfJob.{plans_of}
use Rattle.mt_sched.specs.PlanSteps.{without_plan}
use Rattle.mt_sched.proofs.Filters.{differ}
use Rattle.mt_sched.proofs.Jobs.{plans_of_done}
use Rattle.mt_sched.proofs.Orders.{remove_filter, same_test}
use Rattle.mt_feeds.specs.declared.kept.FedJob.{FedJob}
use Rattle.mt_feeds.specs.FedJob.{IsKept}
use Rattle.mt_jobs.specs.JobList.{IsJobs, done_of, jobs_in, numbers_of, running_of}
use Rattle.mt_jobs.proofs.Changes.{at_job, jobs_written, same_numbers, small_at}
use Rattle.mt_jobs.proofs.Numbers.{below_first, with_job_is}

module _ {B : Type 0} where
  -- ---- the set of those that run

  tail_stays : (number : ℕ) (t : Job B → Bool) (jobs : List (Job B)) → AllByRecursion (λ n. nat_cmp number n ≡ Less) (numbers_of jobs) → filter (λ n. not (n == number)) (numbers_of (filter t jobs)) ≡ numbers_of (filter t jobs)
  tail_stays number t [] above = refl
  tail_stays number t (j ∷ js) above = by (t j) (tail_stays number t js above.1)
    where
      off : (j.number == number) ≡ false
      off = sym (same_test number j.number) ∙ ap is_eq above.0

      by : (b : Bool) → filter (λ n. not (n == number)) (numbers_of (filter t js)) ≡ numbers_of (filter t js) → filter (λ n. not (n == number)) (numbers_of (cond b (j ∷ filter t js) (filter t js))) ≡ numbers_of (cond b (j ∷ filter t js) (filter t js))
      by true more = ap (λ x. cond (not x) (j.number ∷ filter (λ n. not (n == number)) (numbers_of (filter t js))) (filter (λ n. not (n == number)) (numbers_of (filter t js)))) off ∙ ap (λ l. j.number ∷ l) more
      by false more = more

  here_case : (number : ℕ) (j new : Job B) (js : List (Job B)) (b : Bool) → is_running new ≡ false → j.number ≡ number → AllByRecursion (λ n. nat_cmp number n ≡ Less) (numbers_of js)
      → filter (λ n. not (n == number)) (numbers_of (cond b (j ∷ filter is_running js) (filter is_running js))) ≡ numbers_of (cond (is_running new) (new ∷ filter is_running js) (filter is_running js))
  here_case number j new js true done here above =
      ap (λ x. cond (not x) (j.number ∷ filter (λ n. not (n == number)) (running_of js)) (filter (λ n. not (n == number)) (running_of js))) (eq-eqb j.number number here)
      ∙ tail_stays number is_running js above
      ∙ sym (ap (λ x. numbers_of (cond x (new ∷ filter is_running js) (filter is_running js))) done)
  here_case number j new js false done here above = tail_stays number is_running js above ∙ sym (ap (λ x. numbers_of (cond x (new ∷ filter is_running js) (filter is_running js))) done)

  later_case : (number : ℕ) (j : Job B) (js ks : List (Job B)) (b : Bool) → (j.number == number) ≡ false → filter (λ n. not (n == number)) (running_of js) ≡ running_of ks
      → filter (λ n. not (n == number)) (numbers_of (cond b (j ∷ filter is_running js) (filter is_running js))) ≡ numbers_of (cond b (j ∷ filter is_running ks) (filter is_running ks))
  later_case number j js ks true off more =
      ap (λ x. cond (not x) (j.number ∷ filter (λ n. not (n == number)) (running_of js)) (filter (λ n. not (n == number)) (running_of js))) off ∙ ap (λ l. j.number ∷ l) more
  later_case number j js ks false off more = more

  off_head : (j old : Job B) (js : List (Job B)) (k : ℕ) → IsStrictlySortedBy nat_cmp (numbers_of (j ∷ js)) → slice_get js k ≡ Some old → (j.number == old.number) ≡ false
  off_head j old js k rising at =
      let off : (old.number == j.number) ≡ false = below_first j.number k old js (sorted_head nat_cmp j.number (numbers_of js) rising) at in
      differ j.number old.number (λ e. true≢false (sym (eq-eqb old.number j.number (sym e)) ∙ off)) (j.number == old.number) refl

  pub running_left : (jobs : List (Job B)) (k : ℕ) (old new : Job B) → IsStrictlySortedBy nat_cmp (numbers_of jobs) → slice_get jobs k ≡ Some old → is_running new ≡ false → filter (λ n. not (n == old.number)) (running_of jobs) ≡ running_of (set jobs k new)
  running_left [] k old new rising at done = cc
  running_left (j ∷ js) zero old new rising at done =
      let is : j ≡ old = ap (λ o. unwrap_or o j) at in
      let here : j.number ≡ old.number = ap (λ (x : Job B). x.number) is in
      here_case old.number j new js (is_running j) done here (subst (λ m. AllByRecursion (λ n. nat_cmp m n ≡ Less) (numbers_of js)) here (sorted_head nat_cmp j.number (numbers_of js) rising))
  running_left (j ∷ js) (suc k) old new rising at done =
      later_case old.number j js (set js k new) (is_running j) (off_head j old js k rising at) (running_left js k old new (sorted_tail nat_cmp j.number (numbers_of js) rising) at done)

  -- ---- the set of those that are done

  insert_first : (number : ℕ) (t : Job B → Bool) (jobs : List (Job B)) → AllByRecursion (λ n. nat_cmp number n ≡ Less) (numbers_of jobs) → insert_key nat_cmp (numbers_of (filter t jobs)) number ≡ number ∷ numbers_of (filter t jobs)
  insert_first number t [] above = refl
  insert_first number t (j ∷ js) above = by (t j) (insert_first number t js above.1)
    where
      by : (b : Bool) → insert_key nat_cmp (numbers_of (filter t js)) number ≡ number ∷ numbers_of (filter t js) → insert_key nat_cmp (numbers_of (cond b (j ∷ filter t js) (filter t js))) number ≡ number ∷ numbers_of (cond b (j ∷ filter t js) (filter t js))
      by true more = ap (λ o. match_ordering o (number ∷ j.number ∷ numbers_of (filter t js)) (j.number ∷ numbers_of (filter t js)) (j.number ∷ insert_key nat_cmp (numbers_of (filter t js)) number)) above.0
      by false more = more

  abbrev is_done : Job B → Bool
  is_done j = not (is_running j)

  done_here : (number : ℕ) (j new : Job B) (js : List (Job B)) (b : Bool) → is_done new ≡ true → j.number ≡ number → new.number ≡ number → AllByRecursion (λ n. nat_cmp number n ≡ Less) (numbers_of js)
      → insert_key nat_cmp (numbers_of (cond b (j ∷ filter is_done js) (filter is_done js))) number ≡ numbers_of (cond (is_done new) (new ∷ filter is_done js) (filter is_done js))
  done_here number j new js true done here there above =
      ap (λ o. match_ordering o (number ∷ j.number ∷ done_of js) (j.number ∷ done_of js) (j.number ∷ insert_key nat_cmp (done_of js) number)) (sym (nat_cmp_is number j.number Equal (sym here)))
      ∙ ap (λ n. n ∷ done_of js) (here ∙ sym there)
      ∙ sym (ap (λ x. numbers_of (cond x (new ∷ filter is_done js) (filter is_done js))) done)
  done_here number j new js false done here there above =
      insert_first number is_done js above ∙ ap (λ n. n ∷ done_of js) (sym there) ∙ sym (ap (λ x. numbers_of (cond x (new ∷ filter is_done js) (filter is_done js))) done)

  done_later : (number : ℕ) (j : Job B) (js ks : List (Job B)) (b : Bool) → nat_cmp number j.number ≡ Greater → insert_key nat_cmp (done_of js) number ≡ done_of ks
      → insert_key nat_cmp (numbers_of (cond b (j ∷ filter is_done js) (filter is_done js))) number ≡ numbers_of (cond b (j ∷ filter is_done ks) (filter is_done ks))
  done_later number j js ks true above more =
      ap (λ o. match_ordering o (number ∷ j.number ∷ done_of js) (j.number ∷ done_of js) (j.number ∷ insert_key nat_cmp (done_of js) number)) above ∙ ap (λ l. j.number ∷ l) more
  done_later number j js ks false above more = more

  above_head : (number k : ℕ) (old : Job B) (js : List (Job B)) → AllByRecursion (λ n. nat_cmp number n ≡ Less) (numbers_of js) → slice_get js k ≡ Some old → nat_cmp number old.number ≡ Less
  above_head number k old [] above at = cc
  above_head number zero old (j ∷ js) above at = sym (ap (λ (x : Job B). nat_cmp number x.number) (ap (λ o. unwrap_or o j) at)) ∙ above.0
  above_head number (suc k) old (j ∷ js) above at = above_head number k old js above.1 at

  pub done_joined : (jobs : List (Job B)) (k : ℕ) (old new : Job B) → IsStrictlySortedBy nat_cmp (numbers_of jobs) → slice_get jobs k ≡ Some old → is_running new ≡ false → new.number ≡ old.number → insert_key nat_cmp (done_of jobs) old.number ≡ done_of (set jobs k new)
  done_joined [] k old new rising at done number = cc
  done_joined (j ∷ js) zero old new rising at done number =
      let here : j.number ≡ old.number = ap (λ (x : Job B). x.number) (ap (λ o. unwrap_or o j) at) in
      done_here old.number j new js (is_done j) (ap not done) here number (subst (λ m. AllByRecursion (λ n. nat_cmp m n ≡ Less) (numbers_of js)) here (sorted_head nat_cmp j.number (numbers_of js) rising))
  done_joined (j ∷ js) (suc k) old new rising at done number =
      let less : nat_cmp j.number old.number ≡ Less = above_head j.number k old js (sorted_head nat_cmp j.number (numbers_of js) rising) at in
      done_later old.number j js (set js k new) (is_done j) (nat_cmp_total.antisymm old.number j.number ∙ ap ordering_reverse less)
      (done_joined js k old new (sorted_tail nat_cmp j.number (numbers_of js) rising) at done number)

  -- ---- all that is kept

  -- a job that is done is written at its place; its plan goes, and its number moves
  pub jobs_ended : (moment : ℕ) (cancelled : Bool) (kept : List (FedJob B)) (plans : List (ℕ × Plan)) (running done : List ℕ) (k : ℕ) (old new : FedJob B) → IsJobs kept plans running done → slice_get kept k ≡ Some old → IsKept new → new.job ≡ done_at moment cancelled old.job
      → IsStrictlySortedBy nat_cmp running → IsJobs (set kept k new) (without_plan plans old.job.number) (remove_key (is_at (nat_cmp old.job.number)) running) (insert_key nat_cmp done old.job.number)
  jobs_ended moment cancelled kept plans running done k old new is at good ends sorted =
      let number : new.job.number ≡ old.job.number = ap (λ (x : Job B). x.number) ends in
      let stopped : is_running new.job ≡ false = ap is_running ends in
      let written : jobs_in (set kept k new) ≡ set (jobs_in kept) k new.job = jobs_written kept k new in
      let there = at_job kept k old at in
      record {
        rising = subst (IsStrictlySortedBy nat_cmp) (sym (same_numbers kept k old new at number)) is.rising;
        small = All-set (λ (x : FedJob B). x.job.number < 2 ^ 62) kept k new (subst (λ n. n < 2 ^ 62) (sym number) (small_at kept k old is.small at)) is.small;
        each = All-set IsKept kept k new good is.each;
        plans_are =
            ap (λ l. without_plan l old.job.number) is.plans_are
            ∙ sym (plans_of_done (jobs_in kept) old.job.number moment cancelled)
            ∙ ap plans_of (sym (with_job_is old.job.number (done_at moment cancelled) (jobs_in kept) k old.job new.job is.rising there refl ends) ∙ sym written);
        running_are =
            remove_filter old.job.number running sorted
            ∙ ap (filter (λ n. not (n == old.job.number))) is.running_are
            ∙ running_left (jobs_in kept) k old.job new.job is.rising there stopped
            ∙ ap running_of (sym written);
        done_are =
            ap (λ l. insert_key nat_cmp l old.job.number) is.done_are
            ∙ done_joined (jobs_in kept) k old.job new.job is.rising there stopped number
            ∙ ap done_of (sym written);
      }

  set_back : (xs : List (FedJob B)) (k : ℕ) (x : FedJob B) → slice_get xs k ≡ Some x → set xs k x ≡ xs
  set_back [] k x at = refl
  set_back (y ∷ ys) zero x at = ap (λ z. z ∷ ys) (ap (λ o. unwrap_or o x) (sym at))
  set_back (y ∷ ys) (suc k) x at = ap (λ l. y ∷ l) (set_back ys k x at)

  -- the numbers of the jobs that pass a test rise too
  all_left : (t : Job B → Bool) (n : ℕ) (js : List (Job B)) → AllByRecursion (λ m. nat_cmp n m ≡ Less) (numbers_of js) → AllByRecursion (λ m. nat_cmp n m ≡ Less) (numbers_of (filter t js))
  all_left t n [] all = tt
  all_left t n (j ∷ js) all = by (t j) (all_left t n js all.1)
    where
      by : (b : Bool) → AllByRecursion (λ m. nat_cmp n m ≡ Less) (numbers_of (filter t js)) → AllByRecursion (λ m. nat_cmp n m ≡ Less) (numbers_of (cond b (j ∷ filter t js) (filter t js)))
      by true more = (all.0, more)
      by false more = more

  rising_case : (t : Job B → Bool) (j : Job B) (js : List (Job B)) (b : Bool) → AllByRecursion (λ m. nat_cmp j.number m ≡ Less) (numbers_of (filter t js)) → IsStrictlySortedBy nat_cmp (numbers_of (filter t js)) → IsStrictlySortedBy nat_cmp (numbers_of (cond b (j ∷ filter t js) (filter t js)))
  unfolding IsStrictlySortedBy
  rising_case t j js true above more = (above, more)
  rising_case t j js false above more = more

  pub rising_left : (t : Job B → Bool) (js : List (Job B)) → IsStrictlySortedBy nat_cmp (numbers_of js) → IsStrictlySortedBy nat_cmp (numbers_of (filter t js))
  rising_left t [] rising = rising
  rising_left t (j ∷ js) rising = rising_case t j js (t j) (all_left t j.number js (sorted_head nat_cmp j.number (numbers_of js) rising)) (rising_left t js (sorted_tail nat_cmp j.number (numbers_of js) rising))

  -- it ends, or on want of memory nothing changes
  pub ended_either : {E : Type 0} (r : Result (Unit {0}) E) (moment : ℕ) (cancelled : Bool) (kept : List (FedJob B)) (plans later : List (ℕ × Plan)) (running run done don : List ℕ) (k : ℕ) (old new : FedJob B) → IsJobs kept plans running done → slice_get kept k ≡ Some old
      → OnOk r (new.job ≡ done_at moment cancelled old.job) → OnOk r (IsKept new) → OnOk r (later ≡ without_plan plans old.job.number) → OnOk r (run ≡ remove_key (is_at (nat_cmp old.job.number)) running) → OnOk r (don ≡ insert_key nat_cmp done old.job.number)
      → OnErr r ((new ≡ old) × (later ≡ plans) × (run ≡ running) × (don ≡ done)) → IsJobs (set kept k new) later run don
  ended_either (Ok x) moment cancelled kept plans later running run done don k old new is at ends good later_is run_is don_is same =
      let sorted : IsStrictlySortedBy nat_cmp running = subst (IsStrictlySortedBy nat_cmp) (sym is.running_are) (rising_left is_running (jobs_in kept) is.rising) in
      subst (λ l. IsJobs (set kept k new) l run don) (sym later_is)
      (subst (λ l. IsJobs (set kept k new) (without_plan plans old.job.number) l don) (sym run_is)
      (subst (λ l. IsJobs (set kept k new) (without_plan plans old.job.number) (remove_key (is_at (nat_cmp old.job.number)) running) l) (sym don_is)
      (jobs_ended moment cancelled kept plans running done k old new is at good ends sorted)))
  ended_either (Err e) moment cancelled kept plans later running run done don k old new is at ends good later_is run_is don_is same =
      subst (λ l. IsJobs l later run don) (sym (ap (set kept k) same.0 ∙ set_back kept k old at))
      (subst (λ l. IsJobs kept l run don) (sym same.1) (subst (λ l. IsJobs kept plans l don) (sym same.2) (subst (λ l. IsJobs kept plans running l) (sym same.3) is)))
