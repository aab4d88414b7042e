-- A new job: its folders are new, and so is its number.
use Rattle.std.proofs.Common.{Bool, List, None, Option, Some, [], ap, append-nil, arith, bytes_eq, cond, false, length, not, refl, subst, sym, true, true≢false, ℕ, ◌++◌, ◌<◌, ◌^◌, ◌∙◌, ◌∷◌, ◌≡◌}
use Rattle.std.specs.Prelude.{All, is_some}
use Rattle.std.specs.List.{filter, find}
use Rattle.std.specs.List.Sorted.{IsStrictlySortedBy}
use Rattle.std.specs.BTreeSet.{insert_key}
use Rattle.std.specs.Ordering.{nat_cmp}
use Rattle.std.proofs.lemmas.List.Elements.{All-filter, All-head, All-map, All-push, All-tail, All-weaker, filter-append}
use Rattle.std.proofs.lemmas.Slice.Eq.{bytes_eq-Decides}
use Rattle.mt_path.specs.AccountPath.{AccountPath}
use Rattle.mt_path.specs.declared.area.Area.TheVariants.{Jobs}
use Rattle.mt_types.specs.declared.document.JobDocument.{JobDocument}
use Rattle.mt_types.specs.declared.job.Job.{Job}
use Rattle.mt_types.specs.declared.limits.TheConstants.{MOST_COMMANDS}
use Rattle.mt_types.specs.declared.object.Entry.{Entry}
use Rattle.mt_types.specs.declared.object.Entry.TheVariants as entry
use Rattle.mt_types.specs.declared.refusal.Refusal.TheVariants.{EntityExists}
use Rattle.mt_model.specs.JobSteps.{new_job}
use Rattle.mt_model.specs.Lawful.{IsBelow, LawfulJob, LawfulJobs, fits_below, job_named}
use Rattle.mt_model.specs.Names.{job_folder, job_name, job_stor, number_at}
use Rattle.mt_model.specs.Rows.{Rows, above_refusal, at, directory_refusal, first_refusal, is_path, make_directory_refusal, parent_refusal, refuse_if, with_row}
use Rattle.mt_model.specs.Tasks.{is_running}
use Rattle.mt_model.proofs.Children.{parent-above}
use Rattle.mt_model.proofs.LawfulNewJob.{all_numbers, name_injective, other_path, sorted_push}
use Rattle.mt_model.proofs.Maps.{map-append}
use Rattle.mt_model.proofs.RowLaws.{at-with_row, is_path-self}
use Rattle.mt_sched.specs.Plans.{IsAbove}
use Rattle.mt_sched.specs.Plan.{Plan}
use Rattle.mt_sched.specs.PlanOfJob.{kinds_of, plan_of, plans_of}
use Rattle.mt_sched.specs.PlanSteps.{first_plan}
use Rattle.mt_sched.proofs.Changes.{plan_of_new}
use Rattle.mt_sched.proofs.Jobs.{plans_of_new}
use Rattle.mt_sched.proofs.Orders.{insert_last}
use Rattle.mt_feeds.specs.declared.kept.FedJob.{FedJob}
use Rattle.mt_feeds.specs.FedJob.{IsKept}
use Rattle.mt_jobs.specs.JobList.{IsJobs, done_of, jobs_in, numbers_of, running_of}

none_from : {X : Type 0} (o : Option X) → ((x : X) → o ≡ Some x → ⊥) → o ≡ None
none_from None never = refl
none_from (Some x) never = absurd (never x refl)

find_none : {X : Type 0} (t : X → Bool) (xs : List X) → All (λ x. t x ≡ false) xs → find t xs ≡ None
find_none t [] a = refl
find_none t (x ∷ xs) a = ap (λ b. cond b (Some x) (find t xs)) (All-head (λ x. t x ≡ false) x xs a) ∙ find_none t xs (All-tail (λ x. t x ≡ false) x xs a)

module _ {B : Type 0} (count : ℕ) (rows : Rows B) (jobs : List (Job B)) (lawful : LawfulJobs count rows jobs) (room : count < MOST_COMMANDS) where
  abbrev n : ℕ
  n = number_at count 0

  pub small : n < 2 ^ 62
  small = omega (arith, room)

  pub all_below : All (λ j. j.number < n) jobs
  all_below = All-weaker (LawfulJob count) (λ j. j.number < n) (λ j l. let under : IsBelow count j.number = l.number.below in omega (arith, under)) jobs lawful.each

  unnamed_case : (j : Job B) → j.number < n → (b : Bool) → bytes_eq (job_name j.number) (job_name n) ≡ b → b ≡ false
  unnamed_case j under true t =
      let same : job_name j.number ≡ job_name n = (bytes_eq-Decides (job_name j.number) (job_name n)).0 t in
      let number : j.number ≡ n = name_injective j.number n (omega (arith, under, room)) small same in
      absurd (omega (arith, number, under))
  unnamed_case j under false t = refl

  fresh : job_named jobs (job_name n) ≡ None
  fresh = find_none (λ j. bytes_eq (job_name j.number) (job_name n)) jobs
      (All-weaker (λ j. j.number < n) (λ j. bytes_eq (job_name j.number) (job_name n) ≡ false) (λ j under. unnamed_case j under (bytes_eq (job_name j.number) (job_name n)) refl) jobs all_below)

  -- nothing stands at its folder and below
  pub unused : (names : List (List ℕ)) → at rows (record { area = Jobs; parts = job_name n ∷ names }) ≡ None
  unused names = none_from (at rows (record { area = Jobs; parts = job_name n ∷ names })) (λ e is.
      let fits : fits_below (job_named jobs (job_name n)) names e ≡ true = lawful.entries (job_name n) names e is in
      true≢false (sym fits ∙ ap (λ o. fits_below o names e) fresh))

module _ {B : Type 0} where
  -- a number above all jobs is above all plans
  pub above_plans : (n : ℕ) (jobs : List (Job B)) → All (λ j. j.number < n) jobs → IsAbove n (plans_of jobs)
  above_plans n jobs below = All-map (λ e. e.0 < n) (λ j. (j.number, plan_of j)) (filter is_running jobs) (All-filter is_running (λ j. j.number < n) jobs below)

  numbers_push : (jobs : List (Job B)) (j : Job B) → numbers_of (jobs ++ j ∷ []) ≡ numbers_of jobs ++ j.number ∷ []
  numbers_push jobs j = map-append (λ (x : Job B). x.number) jobs (j ∷ [])

  filter_push : (t : Job B → Bool) (jobs : List (Job B)) (j : Job B) (b : Bool) → t j ≡ b → filter t (jobs ++ j ∷ []) ≡ filter t jobs ++ cond b (j ∷ []) []
  filter_push t jobs j b is = filter-append t jobs (j ∷ []) ∙ ap (λ c. filter t jobs ++ cond c (j ∷ []) []) is

  all_kept : (n : ℕ) (kept : List (FedJob B)) → All (λ j. j.number < n) (jobs_in kept) → All (λ x. x < n) (numbers_of (jobs_in kept))
  all_kept n kept below = all_numbers (λ (j : Job B). j.number) n (jobs_in kept) below

  -- a job that was just made comes behind the others
  pub jobs_added : (rows : Rows B) (n moment : ℕ) (document : JobDocument) (kept : List (FedJob B)) (plans : List (ℕ × Plan)) (running done : List ℕ) (new : FedJob B) → IsJobs kept plans running done → IsKept new → new.job ≡ new_job rows n document moment → n < 2 ^ 62
      → All (λ j. j.number < n) (jobs_in kept) → IsJobs (kept ++ new ∷ []) (plans ++ (n, first_plan (kinds_of document.phases)) ∷ []) (insert_key nat_cmp running n) done
  jobs_added rows n moment document kept plans running done new is good made small below =
      let number : new.job.number ≡ n = ap (λ (x : Job B). x.number) made in
      let runs : is_running new.job ≡ true = ap is_running made in
      let joined : jobs_in (kept ++ new ∷ []) ≡ jobs_in kept ++ new.job ∷ [] = map-append (λ (x : FedJob B). x.job) kept (new ∷ []) in
      let plan : plan_of new.job ≡ first_plan (kinds_of document.phases) = ap plan_of made ∙ plan_of_new rows n document moment in
      record {
        rising = subst (IsStrictlySortedBy nat_cmp) (sym (ap numbers_of joined ∙ numbers_push (jobs_in kept) new.job ∙ ap (λ x. numbers_of (jobs_in kept) ++ x ∷ []) number)) (sorted_push (numbers_of (jobs_in kept)) n is.rising (all_kept n kept below));
        small = All-push (λ (x : FedJob B). x.job.number < 2 ^ 62) kept new is.small (subst (λ x. x < 2 ^ 62) (sym number) small);
        each = All-push IsKept kept new is.each good;
        plans_are =
            ap {B = List (ℕ × Plan)} (λ l. l ++ (n, first_plan (kinds_of document.phases)) ∷ []) is.plans_are
            ∙ ap {B = List (ℕ × Plan)} (λ p. plans_of (jobs_in kept) ++ (n, p) ∷ []) (sym plan)
            ∙ ap {B = List (ℕ × Plan)} (λ x. plans_of (jobs_in kept) ++ (x, plan_of new.job) ∷ []) (sym number)
            ∙ sym (plans_of_new (jobs_in kept) new.job runs)
            ∙ ap plans_of (sym joined);
        running_are =
            ap (λ l. insert_key nat_cmp l n) is.running_are
            ∙ insert_last (running_of (jobs_in kept)) n (all_numbers (λ (j : Job B). j.number) n (filter is_running (jobs_in kept)) (All-filter is_running (λ j. j.number < n) (jobs_in kept) below))
            ∙ ap (λ x. running_of (jobs_in kept) ++ x ∷ []) (sym number)
            ∙ sym (ap numbers_of (filter_push is_running (jobs_in kept) new.job true runs) ∙ map-append (λ (j : Job B). j.number) (filter is_running (jobs_in kept)) (new.job ∷ []))
            ∙ ap running_of (sym joined);
        done_are =
            is.done_are
            ∙ sym (ap numbers_of (filter_push (λ j. not (is_running j)) (jobs_in kept) new.job false (ap not runs) ∙ append-nil (filter (λ j. not (is_running j)) (jobs_in kept))))
            ∙ ap done_of (sym joined);
      }

module _ {B : Type 0} where
  -- so it is where the parts are these
  pub jobs_pushed : (rows : Rows B) (n moment : ℕ) (document : JobDocument) (kept left : List (FedJob B)) (plans later : List (ℕ × Plan)) (running run done : List ℕ) (new : FedJob B) → IsJobs kept plans running done → IsKept new → new.job ≡ new_job rows n document moment → n < 2 ^ 62
      → All (λ j. j.number < n) (jobs_in kept) → left ≡ kept ++ new ∷ [] → later ≡ plans ++ (new.job.number, first_plan (kinds_of new.job.document.phases)) ∷ [] → run ≡ insert_key nat_cmp running new.job.number → IsJobs left later run done
  jobs_pushed rows n moment document kept left plans later running run done new is good made small below left_is later_is run_is =
      let plans_new : later ≡ plans ++ (n, first_plan (kinds_of document.phases)) ∷ [] = later_is ∙ ap {B = List (ℕ × Plan)} (λ (j : Job B). plans ++ (j.number, first_plan (kinds_of j.document.phases)) ∷ []) made in
      let run_new : run ≡ insert_key nat_cmp running n = run_is ∙ ap (λ (j : Job B). insert_key nat_cmp running j.number) made in
      subst (λ l. IsJobs l later run done) (sym left_is)
      (subst (λ l. IsJobs (kept ++ new ∷ []) l run done) (sym plans_new)
      (subst (λ l. IsJobs (kept ++ new ∷ []) (plans ++ (n, first_plan (kinds_of document.phases)) ∷ []) l done) (sym run_new)
      (jobs_added rows n moment document kept plans running done new is good made small below)))

  -- and so are the jobs
  pub jobs_with_new : (kept : List (FedJob B)) (new : FedJob B) → jobs_in (kept ++ new ∷ []) ≡ jobs_in kept ++ new.job ∷ []
  jobs_with_new kept new = map-append (λ (x : FedJob B). x.job) kept (new ∷ [])

-- `stor` can be made in the folder that was just made
pub stor_free : {B : Type 0} (rows : Rows B) (number moment : ℕ) → at rows (job_stor number) ≡ None → make_directory_refusal (with_row rows (job_folder number) (entry.Directory moment)) (job_stor number) ≡ None
stor_free {B = B} rows number moment none =
    let dir : Entry B = entry.Directory moment in
    let folder : AccountPath = job_folder number in
    let stor : AccountPath = job_stor number in
    let new : Rows B = with_row rows folder dir in
    let away : is_path folder stor ≡ false = other_path folder stor (λ e. let longer : 1 ≡ 2 = ap (λ (p : AccountPath). length p.parts) e in absurd (omega (arith, longer))) in
    let none_there : at new stor ≡ None = at-with_row rows folder dir stor ∙ ap (λ b. cond b (Some dir) (at rows stor)) away ∙ none in
    let there : at new folder ≡ Some dir = at-with_row rows folder dir folder ∙ ap (λ b. cond b (Some dir) (at rows folder)) (is_path-self folder) in
    ap (λ o. first_refusal (refuse_if (is_some o) EntityExists) (parent_refusal new stor)) none_there
    ∙ ap (above_refusal new) (parent-above stor (omega arith))
    ∙ ap directory_refusal there
