-- A job that is taken from a list: its plan, what is kept of all jobs then, and which lists go on with it.
use Rattle.std.proofs.Common.{◌≡◌, ℕ, ◌+◌, ◌*◌, ◌%◌, ◌<◌, ◌≤◌, ◌==◌, ◌^◌, Bool, true, false, not, cond, ◌&&◌, nat_lt, List, [], ◌∷◌, ◌++◌, length, map, append-nil, Option, Some, None, refl, sym, ap, subst, ◌∙◌, arith, eq-eqb, true≢false}
use Rattle.std.specs.Prelude.{All, IsSome, is_some}
use Rattle.std.specs.BTreeSet.{insert_key}
use Rattle.std.specs.List.{filter, slice_get}
use Rattle.std.specs.List.Sorted.{IsStrictlySortedBy}
use Rattle.std.specs.Option.{option_map_or}
use Rattle.std.specs.Ordering.{nat_cmp}
use Rattle.std.proofs.lemmas.Bool.{eqb-true, le-ltb, lt-ltb, ltb-false, ltb-true}
use Rattle.std.proofs.lemmas.List.Elements.{All-filter, All-head, All-map, All-nil, All-push, All-tail, filter-append}
use Rattle.mt_types.specs.declared.document.InputLine.{InputLine}
use Rattle.mt_types.specs.declared.job.Item.{Item}
use Rattle.mt_types.specs.declared.job.Job.{Job}
use Rattle.mt_types.specs.declared.job.TraceEntry.{TraceEntry}
use Rattle.mt_types.specs.declared.limits.TheConstants.{MOST_COMMANDS}
use Rattle.mt_model.specs.Feed.{items_of}
use Rattle.mt_model.specs.JobSteps.{new_job}
use Rattle.mt_model.specs.Lawful.{IsFirstNumber, LawfulItem, LawfulJob}
use Rattle.mt_model.specs.Rows.{first_rows}
use Rattle.mt_model.specs.Sound.{Sound}
use Rattle.mt_model.specs.Tasks.{is_running}
use Rattle.mt_model.proofs.LawfulInputs.{and_both, and_left, and_right}
use Rattle.mt_model.proofs.LawfulNewJob.{all_numbers, sorted_nil, sorted_push}
use Rattle.mt_model.proofs.Maps.{map-append}
use Rattle.mt_sched.specs.Plans.{IsAbove}
use Rattle.mt_sched.specs.Plan.{Plan}
use Rattle.mt_sched.specs.PlanOfJob.{kinds_of, plan_of, plans_of}
use Rattle.mt_sched.specs.PlanSteps.{first_plan, grown, with_plan}
use Rattle.mt_sched.proofs.Changes.{plan_of_inputs, plan_of_new}
use Rattle.mt_sched.proofs.Filters.{differ}
use Rattle.mt_sched.proofs.Jobs.{plans_of_new}
use Rattle.mt_sched.proofs.Orders.{insert_last}
use Rattle.mt_feeds.specs.declared.kept.FedJob.{FedJob}
use Rattle.mt_feeds.specs.FedJob.{IsKept}
use Rattle.mt_jobs.specs.JobList.{IsJobs, done_of, jobs_in, numbers_of, running_of}
use Rattle.mt_jobs.specs.Listed.{HasHead, IsHead, LawfulList, NeverFollows, is_above_last, is_first_number, last_of}
use Rattle.mt_jobs.proofs.Lasts.{all_below, last_below}

-- ---- a plan behind the others

with_above : (n : ℕ) (f : Plan → Plan) (plan : Plan) (plans : List (ℕ × Plan)) → IsAbove n plans → with_plan (plans ++ (n, plan) ∷ []) n f ≡ plans ++ (n, f plan) ∷ []
with_above n f plan [] above = ap {B = List (ℕ × Plan)} (λ b. cond b (n, f plan) (n, plan) ∷ []) (eq-eqb n n refl)
with_above n f plan (e ∷ es) above =
    let under : e.0 < n = All-head (λ (x : ℕ × Plan). x.0 < n) e es above in
    ap {B = List (ℕ × Plan)} (λ b. cond b (e.0, f e.1) e ∷ with_plan (es ++ (n, plan) ∷ []) n f) (differ e.0 n (λ same. absurd (omega (arith, same, under))) (e.0 == n) refl)
    ∙ ap (λ l. e ∷ l) (with_above n f plan es (All-tail (λ (x : ℕ × Plan). x.0 < n) e es above))

-- so many items are fed to a job that was just added
pub plans_fed : (n count : ℕ) (plan : Plan) (plans added later : List (ℕ × Plan)) → IsAbove n plans → added ≡ plans ++ (n, plan) ∷ [] → later ≡ with_plan added n (λ p. grown p 0 count) → later ≡ plans ++ (n, grown plan 0 count) ∷ []
plans_fed n count plan plans added later above added_is later_is =
    later_is ∙ ap (λ l. with_plan l n (λ p. grown p 0 count)) added_is ∙ with_above n (λ p. grown p 0 count) plan plans above

-- ---- numbers

first_number : (count number : ℕ) → is_first_number count number ≡ true → IsFirstNumber count number
first_number count number is = record {
  first = eqb-true (number % 4096) 0 (and_left (number % 4096 == 0) _ is);
  below = ltb-true number (count * 4096) (and_right (number % 4096 == 0) _ is);
}

is_first : (count number : ℕ) → IsFirstNumber count number → is_first_number count number ≡ true
is_first count number first = and_both (number % 4096 == 0) (nat_lt number (count * 4096)) (eq-eqb (number % 4096) 0 first.first) (lt-ltb number (count * 4096) first.below)

not_many : (n : ℕ) (b : Bool) → nat_lt 1000000 n ≡ b → not b ≡ true → n ≤ 1000000
not_many n true is none = absurd (true≢false (sym none))
not_many n false is none = ltb-false 1000000 n is

pub small_number : (count number : ℕ) → count ≤ MOST_COMMANDS → IsFirstNumber count number → number < 2 ^ 62
small_number count number room first = let under : number < count * 4096 = first.below in omega (arith, room, under)

-- what holds of all holds of the one behind a front
pub All-behind : {X : Type 0} (P : X → Type 0) (xs : List X) (x : X) (more : List X) → All P (xs ++ x ∷ more) → P x
All-behind P [] x more all = All-head P x more all
All-behind P (y ∷ ys) x more all = All-behind P ys x more (All-tail P y (ys ++ x ∷ more) all)

module _ {B : Type 0} where
  -- ---- the plan of a job whose trace has nothing

  -- the plan of a job depends on its document, its inputs, its trace and whether its input has ended
  pub same_plan : (a b : Job B) → a.document ≡ b.document → a.inputs ≡ b.inputs → a.trace ≡ b.trace → a.ended ≡ b.ended → plan_of a ≡ plan_of b
  same_plan a b document inputs trace ended = λ i. plan_of (record b { document = document i; inputs = inputs i; trace = trace i; ended = ended i })

  -- no input, no missing line
  abbrev bare : Job B → Job B
  bare job = new_job first_rows job.number job.document job.created

  bare_sound : (job : Job B) → Sound (bare job)
  bare_sound job = record {
    tasks = λ k e is. cc;
    once = λ k e is. cc;
    rising = sorted_nil;
    finished = λ some. cc;
    cancelled = λ e. cc;
  }

  pub plan_listed : (job : Job B) → job.trace ≡ [] → job.ended ≡ false → plan_of job ≡ grown (first_plan (kinds_of job.document.phases)) 0 (length job.inputs)
  plan_listed job trace ended =
      same_plan job (record (bare job) { inputs = job.inputs; missing = job.missing }) refl refl trace ended
      ∙ plan_of_inputs (bare job) (bare_sound job) job.inputs job.missing
      ∙ ap (λ p. grown p 0 (length job.inputs)) (plan_of_new first_rows job.number job.document job.created)

  -- ---- what is kept of all jobs

  -- a number above all jobs is above all plans
  pub above_kept : (n : ℕ) (kept : List (FedJob B)) (plans : List (ℕ × Plan)) (running done : List ℕ) → IsJobs kept plans running done → All (λ j. j.number < n) (jobs_in kept) → IsAbove n plans
  above_kept n kept plans running done is below =
      subst (IsAbove n) (sym is.plans_are) (All-map (λ e. e.0 < n) (λ j. (j.number, plan_of j)) (filter is_running (jobs_in kept)) (All-filter is_running (λ j. j.number < n) (jobs_in kept) below))

  numbers_push : (jobs : List (Job B)) (j : Job B) → numbers_of (jobs ++ j ∷ []) ≡ numbers_of jobs ++ j.number ∷ []
  numbers_push jobs j = map-append (λ (x : Job B). x.number) jobs (j ∷ [])

  filter_push : (t : Job B → Bool) (jobs : List (Job B)) (j : Job B) (b : Bool) → t j ≡ b → filter t (jobs ++ j ∷ []) ≡ filter t jobs ++ cond b (j ∷ []) []
  filter_push t jobs j b is = filter-append t jobs (j ∷ []) ∙ ap (λ c. filter t jobs ++ cond c (j ∷ []) []) is

  rising_push : (jobs : List (Job B)) (j : Job B) → IsStrictlySortedBy nat_cmp (numbers_of jobs) → All (λ x. x.number < j.number) jobs → IsStrictlySortedBy nat_cmp (numbers_of (jobs ++ j ∷ []))
  rising_push jobs j rising below =
      subst (IsStrictlySortedBy nat_cmp) (sym (numbers_push jobs j)) (sorted_push (numbers_of jobs) j.number rising (all_numbers (λ (x : Job B). x.number) j.number jobs below))

  -- a job that runs comes behind the others, with its plan
  added : (kept : List (FedJob B)) (plans : List (ℕ × Plan)) (running done : List ℕ) (new : FedJob B) → IsJobs kept plans running done → IsKept new → is_running new.job ≡ true → new.job.number < 2 ^ 62 → All (λ j. j.number < new.job.number) (jobs_in kept)
      → IsJobs (kept ++ new ∷ []) (plans ++ (new.job.number, plan_of new.job) ∷ []) (insert_key nat_cmp running new.job.number) done
  added kept plans running done new is good runs small below =
      let joined : jobs_in (kept ++ new ∷ []) ≡ jobs_in kept ++ new.job ∷ [] = map-append (λ (x : FedJob B). x.job) kept (new ∷ []) in
      record {
        rising = subst (λ l. IsStrictlySortedBy nat_cmp (numbers_of l)) (sym joined) (rising_push (jobs_in kept) new.job is.rising below);
        small = All-push (λ (x : FedJob B). x.job.number < 2 ^ 62) kept new is.small small;
        each = All-push IsKept kept new is.each good;
        plans_are =
            ap {B = List (ℕ × Plan)} (λ l. l ++ (new.job.number, plan_of new.job) ∷ []) is.plans_are
            ∙ sym (plans_of_new (jobs_in kept) new.job runs)
            ∙ ap plans_of (sym joined);
        running_are =
            ap (λ l. insert_key nat_cmp l new.job.number) is.running_are
            ∙ insert_last (running_of (jobs_in kept)) new.job.number (all_numbers (λ (j : Job B). j.number) new.job.number (filter is_running (jobs_in kept)) (All-filter is_running (λ j. j.number < new.job.number) (jobs_in kept) below))
            ∙ sym (ap numbers_of (filter_push is_running (jobs_in kept) new.job true runs) ∙ map-append (λ (j : Job B). j.number) (filter is_running (jobs_in kept)) (new.job ∷ []))
            ∙ ap running_of (sym joined);
        done_are =
            is.done_are
            ∙ sym (ap numbers_of (filter_push (λ j. not (is_running j)) (jobs_in kept) new.job false (ap not runs) ∙ append-nil (filter (λ j. not (is_running j)) (jobs_in kept))))
            ∙ ap done_of (sym joined);
      }

  -- so it is where the parts are these
  pub jobs_listed : (kept left : List (FedJob B)) (plans later : List (ℕ × Plan)) (running run done : List ℕ) (job : Job B) (new : FedJob B) → IsJobs kept plans running done → IsKept new → new.job ≡ job → IsHead job → job.number < 2 ^ 62 → All (λ j. j.number < job.number) (jobs_in kept)
      → left ≡ kept ++ new ∷ [] → later ≡ plans ++ (new.job.number, grown (first_plan (kinds_of new.job.document.phases)) 0 (length new.job.inputs)) ∷ [] → run ≡ insert_key nat_cmp running new.job.number → IsJobs left later run done
  jobs_listed kept left plans later running run done job new is good made head small below left_is later_is run_is =
      let trace : new.job.trace ≡ [] = ap (λ (j : Job B). j.trace) made ∙ head.trace in
      let ended : new.job.ended ≡ false = ap (λ (j : Job B). j.ended) made ∙ head.ended in
      let runs : is_running new.job ≡ true = ap is_running made ∙ runs_on job.done head.done in
      let plan : plans ++ (new.job.number, grown (first_plan (kinds_of new.job.document.phases)) 0 (length new.job.inputs)) ∷ [] ≡ plans ++ (new.job.number, plan_of new.job) ∷ [] =
      ap {B = List (ℕ × Plan)} (λ p. plans ++ (new.job.number, p) ∷ []) (sym (plan_listed new.job trace ended)) in
      subst (λ l. IsJobs l later run done) (sym left_is)
      (subst (λ l. IsJobs (kept ++ new ∷ []) l run done) (sym (later_is ∙ plan))
      (subst (λ l. IsJobs (kept ++ new ∷ []) (plans ++ (new.job.number, plan_of new.job) ∷ []) l done) (sym run_is)
      (added kept plans running done new is good runs (subst (λ (j : Job B). j.number < 2 ^ 62) (sym made) small) (subst (λ (j : Job B). All (λ x. x.number < j.number) (jobs_in kept)) (sym made) below))))
    where
      runs_on : (o : Option ℕ) → o ≡ None → not (is_some o) ≡ true
      runs_on None e = refl
      runs_on (Some x) e = cc

  pub jobs_with : (kept left : List (FedJob B)) (job : Job B) (new : FedJob B) (jobs : List (Job B)) → jobs_in kept ≡ jobs → new.job ≡ job → left ≡ kept ++ new ∷ [] → jobs_in left ≡ jobs ++ job ∷ []
  jobs_with kept left job new jobs view made left_is =
      ap jobs_in left_is ∙ map-append (λ (x : FedJob B). x.job) kept (new ∷ []) ∙ ap (λ l. l ++ new.job ∷ []) view ∙ ap (λ j. jobs ++ j ∷ []) made

  -- ---- what the test says

  -- the test of a job
  abbrev pub may_take : ℕ → List (Job B) → Job B → Bool
  may_take count jobs job = is_first_number count job.number && is_above_last jobs job.number && not (nat_lt 1000000 (length job.inputs + length job.missing + 0))

  pub record MayTake (count : ℕ) (jobs : List (Job B)) (job : Job B) : Type 0 where
    pub number : IsFirstNumber count job.number
    pub below : All (λ j. j.number < job.number) jobs
    pub few : length job.inputs + length job.missing ≤ 1000000

  none_below : (number : ℕ) (jobs : List (Job B)) → last_of jobs ≡ None → All (λ j. j.number < number) jobs
  none_below number [] none = All-nil (λ j. j.number < number)
  none_below number (j ∷ []) none = cc
  none_below number (j ∷ k ∷ js) none = absurd (some_last k js none)
    where
      some_last : (k : Job B) (js : List (Job B)) → last_of (k ∷ js) ≡ None → ⊥
      some_last k [] none = cc
      some_last k (x ∷ xs) none = some_last x xs none

  below_case : (number : ℕ) (jobs : List (Job B)) (o : Option (Job B)) → IsStrictlySortedBy nat_cmp (numbers_of jobs) → last_of jobs ≡ o → option_map_or (λ j. nat_lt j.number number) o true ≡ true → All (λ j. j.number < number) jobs
  below_case number jobs None rising is above = none_below number jobs is
  below_case number jobs (Some j) rising is above = all_below (λ (x : Job B). x.number) number jobs j rising is (ltb-true j.number number above)

  pub may_taken : (count : ℕ) (jobs : List (Job B)) (job : Job B) → IsStrictlySortedBy nat_cmp (numbers_of jobs) → may_take count jobs job ≡ true → MayTake count jobs job
  may_taken count jobs job rising is =
      let both : (is_first_number count job.number && is_above_last jobs job.number) ≡ true = and_left (is_first_number count job.number && is_above_last jobs job.number) _ is in
      let few : length job.inputs + length job.missing + 0 ≤ 1000000 = not_many (length job.inputs + length job.missing + 0) (nat_lt 1000000 (length job.inputs + length job.missing + 0)) refl (and_right (is_first_number count job.number && is_above_last jobs job.number) _ is) in
      record {
        number = first_number count job.number (and_left (is_first_number count job.number) _ both);
        below = below_case job.number jobs (last_of jobs) rising refl (and_right (is_first_number count job.number) _ both);
        few = omega (arith, few);
      }

  -- ---- lists that go on

  head_lawful : (count : ℕ) (jobs : List (Job B)) (job : Job B) → IsHead job → MayTake count jobs job → LawfulJob count job
  head_lawful count jobs job head may = record {
    number = may.number;
    positions = subst (All (λ (e : TraceEntry B). e.position < count)) (sym head.trace) (All-nil (λ (e : TraceEntry B). e.position < count));
    few = may.few;
    inputs = head.inputs;
    missing = head.missing;
    few_each = subst (All (λ (e : TraceEntry B). length (items_of e.outcome) ≤ 4095)) (sym head.trace) (All-nil (λ (e : TraceEntry B). length (items_of e.outcome) ≤ 4095));
    outputs = subst (All (λ (e : TraceEntry B). All LawfulItem (items_of e.outcome))) (sym head.trace) (All-nil (λ (e : TraceEntry B). All LawfulItem (items_of e.outcome)));
    document = head.document;
    assets = head.assets;
    sound = head_sound;
  }
    where
      none_there : (trace : List (TraceEntry B)) (k : ℕ) (e : TraceEntry B) → trace ≡ [] → slice_get trace k ≡ Some e → ⊥
      none_there [] k e none at = cc
      none_there (x ∷ xs) k e none at = cc

      not_some : (o : Option ℕ) → o ≡ None → IsSome o → ⊥
      not_some None none some = cc
      not_some (Some x) none some = cc

      head_sound : Sound job
      head_sound = record {
        tasks = λ k e at. absurd (none_there job.trace k e head.trace at);
        once = λ k e at. absurd (none_there job.trace k e head.trace at);
        rising = subst (λ t. IsStrictlySortedBy nat_cmp (map (λ (e : TraceEntry B). e.position) t)) (sym head.trace) sorted_nil;
        finished = λ some. absurd (not_some job.done head.done some);
        cancelled = λ is. absurd (true≢false (sym is ∙ head.cancelled));
      }

  pub lawful_pushed : (count : ℕ) (jobs : List (Job B)) (job : Job B) → LawfulList count jobs → IsHead job → MayTake count jobs job → LawfulList count (jobs ++ job ∷ [])
  lawful_pushed count jobs job lawful head may = record {
    rising = rising_push jobs job lawful.rising may.below;
    each = All-push (LawfulJob count) jobs job lawful.each (head_lawful count jobs job head may);
  }

  above_case : (jobs : List (Job B)) (job : Job B) (more : List (Job B)) (o : Option (Job B)) → IsStrictlySortedBy nat_cmp (numbers_of (jobs ++ job ∷ more)) → last_of jobs ≡ o → option_map_or (λ j. nat_lt j.number job.number) o true ≡ true
  above_case jobs job more None rising is = refl
  above_case jobs job more (Some j) rising is = lt-ltb j.number job.number (last_below (λ (x : Job B). x.number) jobs job more j rising is)

  -- a lawful list that goes on with a job of this head passes the test
  follows : (count : ℕ) (jobs : List (Job B)) (head job : Job B) (more : List (Job B)) → HasHead head job → LawfulList count (jobs ++ job ∷ more) → may_take count jobs head ≡ true
  follows count jobs head job more has lawful =
      let law : LawfulJob count job = All-behind (LawfulJob count) jobs job more lawful.each in
      let few : length head.inputs + length head.missing ≤ 1000000 = subst (λ (l : List (Item B)). length l + length head.missing ≤ 1000000) has.inputs (subst (λ (l : List InputLine). length job.inputs + length l ≤ 1000000) has.missing law.few) in
      and_both (is_first_number count head.number && is_above_last jobs head.number) (not (nat_lt 1000000 (length head.inputs + length head.missing + 0)))
      (and_both (is_first_number count head.number) (is_above_last jobs head.number)
      (subst (λ n. is_first_number count n ≡ true) has.number (is_first count job.number law.number))
      (subst (λ n. is_above_last jobs n ≡ true) has.number (above_case jobs job more (last_of jobs) lawful.rising refl)))
      (ap not (le-ltb 1000000 (length head.inputs + length head.missing + 0) (omega (arith, few))))

  pub never_follows : (count : ℕ) (jobs : List (Job B)) (head : Job B) → may_take count jobs head ≡ false → NeverFollows count jobs head
  never_follows count jobs head none = λ job more has lawful. true≢false (sym (follows count jobs head job more has lawful) ∙ none)
