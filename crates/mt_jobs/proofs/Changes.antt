-- What is kept of all jobs, where one of them changes.
use Rattle.std.proofs.Common.{◌≡◌, ℕ, ◌<◌, ◌^◌, ◌==◌, Bool, true, false, not, cond, List, [], ◌∷◌, map, set, Some, refl, sym, ap, subst, ◌∙◌, zero, suc, eq-eqb, true≢false}
use Rattle.std.specs.Prelude.{All}
use Rattle.std.specs.List.{AllByRecursion, filter, slice_get}
use Rattle.std.specs.List.Sorted.{IsStrictlySortedBy}
use Rattle.std.specs.Option.{option_map, unwrap_or}
use Rattle.std.specs.Ordering.{nat_cmp}
use Rattle.std.specs.declared.cmp.Ordering.TheVariants.{Less}
use Rattle.std.proofs.Math.Seq.{map-set_same}
use Rattle.std.proofs.lemmas.List.{map-set}
use Rattle.std.proofs.lemmas.List.Elements.{All-head, All-set, All-tail}
use Rattle.std.proofs.lemmas.Map.Keys.{sorted_head, sorted_tail}
use Rattle.std.proofs.lemmas.Option.{get_or_from_slice_get}
use Rattle.mt_types.specs.declared.job.Job.{Job}
use Rattle.mt_model.specs.Tasks.{is_running}
use Rattle.mt_model.proofs.Maps.{map-map, slice_get-map}
use Rattle.mt_sched.specs.Plan.{Plan}
use Rattle.mt_sched.specs.PlanOfJob.{plan_of, plans_of}
use Rattle.mt_sched.specs.PlanSteps.{with_plan}
use Rattle.mt_sched.proofs.Entries.{no_plan as plan_not_there}
use Rattle.mt_sched.proofs.Filters.{differ}
use Rattle.mt_feeds.specs.declared.kept.FedJob.{FedJob}
use Rattle.mt_feeds.specs.FedJob.{IsKept}
use Rattle.mt_jobs.specs.JobList.{IsJobs, done_of, jobs_in, numbers_of, running_of}
use Rattle.mt_jobs.proofs.Numbers.{below_first, no_plan}

-- ---- plans that change twice

module _ (number : ℕ) (f g : Plan → Plan) where
  twice_case : (e : ℕ × Plan) (t : Bool) → e.0 == number ≡ t → cond ((cond t (e.0, f e.1) e).0 == number) ((cond t (e.0, f e.1) e).0, g (cond t (e.0, f e.1) e).1) (cond t (e.0, f e.1) e) ≡ cond t (e.0, g (f e.1)) e
  twice_case e true at = ap {B = ℕ × Plan} (λ b. cond b (e.0, g (f e.1)) (e.0, f e.1)) at
  twice_case e false at = ap {B = ℕ × Plan} (λ b. cond b (e.0, g e.1) e) at

  -- two changes of a plan are one
  pub with_plan_twice : (plans : List (ℕ × Plan)) → with_plan (with_plan plans number f) number g ≡ with_plan plans number (λ plan. g (f plan))
  with_plan_twice [] = refl
  with_plan_twice (e ∷ es) = λ i. twice_case e (e.0 == number) refl i ∷ with_plan_twice es i

module _ {B : Type 0} where
  -- ---- one job is written at its place, with its number, and runs as before

  filter_case : (t : Job B → Bool) (j new : Job B) (js : List (Job B)) (b : Bool) → t j ≡ b → t new ≡ t j → new.number ≡ j.number → numbers_of (cond (t new) (new ∷ filter t js) (filter t js)) ≡ numbers_of (cond b (j ∷ filter t js) (filter t js))
  filter_case t j new js true at same number = ap (λ b. numbers_of (cond b (new ∷ filter t js) (filter t js))) (same ∙ at) ∙ ap (λ n. n ∷ numbers_of (filter t js)) number
  filter_case t j new js false at same number = ap (λ b. numbers_of (cond b (new ∷ filter t js) (filter t js))) (same ∙ at)

  rest_case : (t : Job B → Bool) (j : Job B) (js ks : List (Job B)) (b : Bool) → numbers_of (filter t js) ≡ numbers_of (filter t ks) → numbers_of (cond b (j ∷ filter t js) (filter t js)) ≡ numbers_of (cond b (j ∷ filter t ks) (filter t ks))
  rest_case t j js ks true same = ap (λ l. j.number ∷ l) same
  rest_case t j js ks false same = same

  -- a test that it passes as before has the same numbers
  pub filter_written : (t : Job B → Bool) (jobs : List (Job B)) (k : ℕ) (old new : Job B) → slice_get jobs k ≡ Some old → t new ≡ t old → new.number ≡ old.number → numbers_of (filter t (set jobs k new)) ≡ numbers_of (filter t jobs)
  filter_written t [] k old new at same number = cc
  filter_written t (j ∷ js) zero old new at same number =
      let is : j ≡ old = ap (λ o. unwrap_or o j) at in
      filter_case t j new js (t j) refl (same ∙ ap t (sym is)) (number ∙ ap (λ (x : Job B). x.number) (sym is))
  filter_written t (j ∷ js) (suc k) old new at same number = rest_case t j (set js k new) js (t j) (filter_written t js k old new at same number)

  abbrev beside : Job B → ℕ × Plan
  beside j = (j.number, plan_of j)

  plans_case : (number : ℕ) (f : Plan → Plan) (j new : Job B) (js : List (Job B)) (b : Bool) → is_running j ≡ b → is_running new ≡ is_running j → j.number ≡ number → new.number ≡ number → plan_of new ≡ f (plan_of j)
      → with_plan (plans_of js) number f ≡ plans_of js → map beside (cond (is_running new) (new ∷ filter is_running js) (filter is_running js)) ≡ with_plan (map beside (cond b (j ∷ filter is_running js) (filter is_running js))) number f
  plans_case number f j new js true at same here there plan none =
      ap (λ b. map beside (cond b (new ∷ filter is_running js) (filter is_running js))) (same ∙ at)
      ∙ ap {B = List (ℕ × Plan)} (λ n. (n, plan_of new) ∷ plans_of js) (there ∙ sym here)
      ∙ ap {B = List (ℕ × Plan)} (λ p. (j.number, p) ∷ plans_of js) plan
      ∙ ap {B = List (ℕ × Plan)} (λ l. (j.number, f (plan_of j)) ∷ l) (sym none)
      ∙ sym (ap {B = List (ℕ × Plan)} (λ b. cond b (j.number, f (plan_of j)) (beside j) ∷ with_plan (plans_of js) number f) (eq-eqb j.number number here))
  plans_case number f j new js false at same here there plan none =
      ap (λ b. map beside (cond b (new ∷ filter is_running js) (filter is_running js))) (same ∙ at) ∙ sym none

  rest_plans : (number : ℕ) (f : Plan → Plan) (j : Job B) (js ks : List (Job B)) (b : Bool) → (j.number == number) ≡ false → plans_of js ≡ with_plan (plans_of ks) number f
      → map beside (cond b (j ∷ filter is_running js) (filter is_running js)) ≡ with_plan (map beside (cond b (j ∷ filter is_running ks) (filter is_running ks))) number f
  rest_plans number f j js ks true off same =
      ap {B = List (ℕ × Plan)} (λ l. beside j ∷ l) same ∙ sym (ap {B = List (ℕ × Plan)} (λ b. cond b (j.number, f (plan_of j)) (beside j) ∷ with_plan (plans_of ks) number f) off)
  rest_plans number f j js ks false off same = same

  -- the plans change at its number
  pub plans_written : (f : Plan → Plan) (jobs : List (Job B)) (k : ℕ) (old new : Job B) → IsStrictlySortedBy nat_cmp (numbers_of jobs) → slice_get jobs k ≡ Some old → new.number ≡ old.number → is_running new ≡ is_running old → plan_of new ≡ f (plan_of old)
      → plans_of (set jobs k new) ≡ with_plan (plans_of jobs) old.number f
  plans_written f [] k old new rising at number runs plan = cc
  plans_written f (j ∷ js) zero old new rising at number runs plan =
      let is : j ≡ old = ap (λ o. unwrap_or o j) at in
      let here : j.number ≡ old.number = ap (λ (x : Job B). x.number) is in
      let above = subst (λ m. AllByRecursion (λ n. nat_cmp m n ≡ Less) (numbers_of js)) here (sorted_head nat_cmp j.number (numbers_of js) rising) in
      plans_case old.number f j new js (is_running j) refl (runs ∙ ap is_running (sym is)) here number (plan ∙ ap (λ x. f (plan_of x)) (sym is))
      (plan_not_there old.number f (plans_of js) (no_plan old.number js above))
  plans_written f (j ∷ js) (suc k) old new rising at number runs plan =
      let off : (old.number == j.number) ≡ false = below_first j.number k old js (sorted_head nat_cmp j.number (numbers_of js) rising) at in
      rest_plans old.number f j (set js k new) js (is_running j)
      (differ j.number old.number (λ e. true≢false (sym (eq-eqb old.number j.number (sym e)) ∙ off)) (j.number == old.number) refl)
      (plans_written f js k old new (sorted_tail nat_cmp j.number (numbers_of js) rising) at number runs plan)

  -- ---- all that is kept

  pub jobs_written : (kept : List (FedJob B)) (k : ℕ) (new : FedJob B) → jobs_in (set kept k new) ≡ set (jobs_in kept) k new.job
  jobs_written kept k new = map-set (λ (x : FedJob B). x.job) kept k new

  pub same_numbers : (kept : List (FedJob B)) (k : ℕ) (old new : FedJob B) → slice_get kept k ≡ Some old → new.job.number ≡ old.job.number → numbers_of (jobs_in (set kept k new)) ≡ numbers_of (jobs_in kept)
  same_numbers kept k old new at number =
      map-map (λ (j : Job B). j.number) (λ (x : FedJob B). x.job) (set kept k new)
      ∙ map-set_same (λ (x : FedJob B). x.job.number) kept k new old (number ∙ ap (λ (x : FedJob B). x.job.number) (sym (get_or_from_slice_get kept k old old at)))
      ∙ sym (map-map (λ (j : Job B). j.number) (λ (x : FedJob B). x.job) kept)

  pub at_job : (kept : List (FedJob B)) (k : ℕ) (old : FedJob B) → slice_get kept k ≡ Some old → slice_get (jobs_in kept) k ≡ Some old.job
  at_job kept k old at = slice_get-map (λ (x : FedJob B). x.job) kept k ∙ ap (option_map (λ (x : FedJob B). x.job)) at

  pub small_at : (kept : List (FedJob B)) (k : ℕ) (old : FedJob B) → All (λ x. x.job.number < 2 ^ 62) kept → slice_get kept k ≡ Some old → old.job.number < 2 ^ 62
  small_at [] k old all at = cc
  small_at (x ∷ xs) zero old all at = subst (λ (c : FedJob B). c.job.number < 2 ^ 62) (ap (λ o. unwrap_or o x) at) (All-head (λ (c : FedJob B). c.job.number < 2 ^ 62) x xs all)
  small_at (x ∷ xs) (suc k) old all at = small_at xs k old (All-tail (λ (c : FedJob B). c.job.number < 2 ^ 62) x xs all) at

  -- a job that runs on is written at its place, with what is kept of it, and its plan changes
  pub jobs_changed : (f : Plan → Plan) (kept : List (FedJob B)) (plans later : List (ℕ × Plan)) (running done : List ℕ) (k : ℕ) (old new : FedJob B) → IsJobs kept plans running done → slice_get kept k ≡ Some old → IsKept new
      → new.job.number ≡ old.job.number → is_running new.job ≡ is_running old.job → plan_of new.job ≡ f (plan_of old.job) → later ≡ with_plan plans old.job.number f → IsJobs (set kept k new) later running done
  jobs_changed f kept plans later running done k old new is at good number runs plan later_is = record {
    rising = subst (IsStrictlySortedBy nat_cmp) (sym (same_numbers kept k old new at number)) is.rising;
    small = All-set (λ (x : FedJob B). x.job.number < 2 ^ 62) kept k new (subst (λ n. n < 2 ^ 62) (sym number) (small_at kept k old is.small at)) is.small;
    each = All-set IsKept kept k new good is.each;
    plans_are =
        later_is ∙ ap (λ l. with_plan l old.job.number f) is.plans_are
        ∙ sym (plans_written f (jobs_in kept) k old.job new.job is.rising (at_job kept k old at) number runs plan)
        ∙ ap plans_of (sym (jobs_written kept k new));
    running_are =
        is.running_are ∙ sym (filter_written is_running (jobs_in kept) k old.job new.job (at_job kept k old at) runs number)
        ∙ ap running_of (sym (jobs_written kept k new));
    done_are =
        is.done_are ∙ sym (filter_written (λ j. not (is_running j)) (jobs_in kept) k old.job new.job (at_job kept k old at) (ap not runs) number)
        ∙ ap done_of (sym (jobs_written kept k new));
  }
