-- What changes of a job make of its plan.
use Rattle.std.proofs.Common.{◌≡◌, ℕ, ◌+◌, ◌≤◌, ◌==◌, Bool, true, false, not, cond, ◌&&◌, ◌||◌, List, [], ◌∷◌, ◌++◌, length, map, Option, Some, None, refl, sym, ap, ◌∙◌, arith, zero, suc, append-nil, append_assoc, eq-eqb, true≢false, length-append, is_some}
use Rattle.std.specs.List.{enumerate_from, filter, range_with_len, slice_get}
use Rattle.std.proofs.lemmas.Bool.{eqb-true}
use Rattle.std.proofs.lemmas.Grind.{flat_map-append}
use Rattle.std.proofs.lemmas.List.Elements.{filter-append, filter_agree}
use Rattle.std.proofs.lemmas.List.Folds.{list_any-append}
use Rattle.std.proofs.lemmas.List.Sums.{sum_by-cons}
use Rattle.mt_types.specs.declared.document.InputLine.{InputLine}
use Rattle.mt_types.specs.declared.document.InputLine.TheVariants.{Named, Other}
use Rattle.mt_types.specs.declared.document.JobDocument.{JobDocument}
use Rattle.mt_types.specs.declared.document.Phase.{Phase}
use Rattle.mt_types.specs.declared.document.PhaseKind.{PhaseKind}
use Rattle.mt_types.specs.declared.document.PhaseKind.TheVariants.{Map, Reduce}
use Rattle.mt_types.specs.declared.job.Item.{Item}
use Rattle.mt_types.specs.declared.job.Job.{Job}
use Rattle.mt_types.specs.declared.job.TraceEntry.{TraceEntry}
use Rattle.mt_types.specs.declared.object.Object.{Object}
use Rattle.mt_model.specs.Feed.{entries_of, feed, items_in, items_of}
use Rattle.mt_model.specs.JobSteps.{new_job, with_entry, with_line, with_lines, with_named}
use Rattle.mt_model.specs.Rows.{Rows, object_at}
use Rattle.mt_model.specs.Sound.{Sound}
use Rattle.mt_model.specs.Tasks.{is_committed, phases_of, task_count}
use Rattle.mt_model.proofs.Maps.{enumerate-map, map-map, same_function}
use Rattle.mt_model.proofs.Traces.{beyond}
use Rattle.mt_sched.specs.Laws.{PlanCommit, PlanEnd, PlanLines, PlanOfNew}
use Rattle.mt_sched.specs.Plan.{PhasePlan, Plan}
use Rattle.mt_sched.specs.PlanOfJob.{inputs_in, is_input, phase_plan, plan_of}
use Rattle.mt_sched.specs.PlanSteps.{at_phase, fed, first_phase, without_place}
use Rattle.mt_sched.proofs.Filters.{differ, eqb_flip, filter_all, filter_range, filter_twice, map_numbered, or_false, range_split}

next_phase : (a n : ℕ) → (a == n) ≡ (suc n == a + 1)
next_phase a n = by (a == n) refl
  where
    by : (t : Bool) → a == n ≡ t → t ≡ (suc n == a + 1)
    by true e = let same : a ≡ n = eqb-true a n e in let next : suc n ≡ a + 1 = omega (arith, same) in sym (eq-eqb (suc n) (a + 1) next)
    by false e = sym (differ (suc n) (a + 1) (λ next. let same : a ≡ n = omega (arith, next) in true≢false (sym (eq-eqb a n same) ∙ e)) (suc n == a + 1) refl)

-- what a change of this phase and of the next make of a phase
abbrev changed : ℕ → ℕ → ℕ → PhasePlan → PhasePlan
changed phase place n q =
    cond ((cond (q.phase == phase) (without_place place q) q).phase == phase + 1)
    (fed n (cond (q.phase == phase) (without_place place q) q)) (cond (q.phase == phase) (without_place place q) q)

module _ {B : Type 0} where
  -- a phase over these items, of which these places are committed
  abbrev plan_at : ℕ → PhaseKind → (ℕ → Bool) → List (Item B) → PhasePlan
  plan_at i kind c items = record { phase = i; kind = kind; places = task_count kind items; todo = filter (λ k. not (c k)) (range_with_len 0 (task_count kind items)) }

  -- where no place beyond is committed, more items feed it
  grow_case : (i : ℕ) (kind : PhaseKind) (c : ℕ → Bool) (items more : List (Item B)) → ((k : ℕ) → task_count kind items ≤ k → c k ≡ false)
      → plan_at i kind c (items ++ more) ≡ fed (length more) (plan_at i kind c items)
  grow_case i Map c items more none =
      let start : 0 + length items ≡ length items = omega arith in
      let todo : filter (λ k. not (c k)) (range_with_len 0 (length items + length more)) ≡ filter (λ k. not (c k)) (range_with_len 0 (length items)) ++ range_with_len (length items) (length more) =
      ap (filter (λ k. not (c k))) (range_split 0 (length items) (length more))
      ∙ filter-append (λ k. not (c k)) (range_with_len 0 (length items)) (range_with_len (0 + length items) (length more))
      ∙ ap (λ l. filter (λ k. not (c k)) (range_with_len 0 (length items)) ++ l)
      (ap (λ a. filter (λ k. not (c k)) (range_with_len a (length more))) start
      ∙ filter_range (λ k. not (c k)) (λ k. true) (length items) (length more) (λ k from to. ap not (none k from))
      ∙ filter_all (range_with_len (length items) (length more))) in
      ap {B = PhasePlan} (λ m. record { phase = i; kind = Map; places = m; todo = filter (λ k. not (c k)) (range_with_len 0 m) }) (length-append items more)
      ∙ ap {B = PhasePlan} (λ l. record { phase = i; kind = Map; places = length items + length more; todo = l }) todo
  grow_case i (Reduce count) c items more none = refl

  none_beyond : (job : Job B) → Sound job → (i : ℕ) (p : Phase) → slice_get job.document.phases i ≡ Some p → (k : ℕ) → task_count p.kind (feed job i) ≤ k → is_committed job.trace i k ≡ false
  none_beyond job sound i p at k past = beyond job sound i k p at past (is_committed job.trace i k) refl

  -- ---- a new job

  feed_of_new : (rows : Rows B) (number moment : ℕ) (document : JobDocument) (n : ℕ) → feed (new_job rows number document moment) n ≡ []
  feed_of_new rows number moment document zero = refl
  feed_of_new rows number moment document (suc n) = refl

  new_case : (i : ℕ) (kind : PhaseKind) (items : List (Item B)) → items ≡ [] → plan_at i kind (λ k. false) items ≡ first_phase (i, kind)
  new_case i Map items none = ap (plan_at i Map (λ k. false)) none
  new_case i (Reduce count) items none = ap {B = PhasePlan} (λ l. record { phase = i; kind = Reduce count; places = count; todo = l }) (filter_all (range_with_len 0 count))

  pub plan_of_new : PlanOfNew B
  plan_of_new rows number document moment =
      ap {B = Plan} (λ l. record { phases = l; ended = false })
      (map_numbered (phase_plan (new_job rows number document moment)) (λ p. first_phase (p.0, p.1.kind)) document.phases
      (λ i p at. new_case i p.kind (feed (new_job rows number document moment) i) (feed_of_new rows number moment document i))
      ∙ sym (map-map first_phase (λ p. (p.0, p.1.kind)) (enumerate_from 0 document.phases))
      ∙ sym (ap (map first_phase) (enumerate-map (λ p. p.kind) 0 document.phases)))

  -- ---- posted lines

  inputs_phase : (job : Job B) → Sound job → (more : List (Item B)) (missing : List InputLine) (i : ℕ) (p : Phase) → slice_get job.document.phases i ≡ Some p
      → phase_plan (record job { inputs = job.inputs ++ more; missing = missing }) (i, p) ≡ cond (i == 0) (fed (length more) (phase_plan job (i, p))) (phase_plan job (i, p))
  inputs_phase job sound more missing zero p at = grow_case 0 p.kind (is_committed job.trace 0) job.inputs more (none_beyond job sound 0 p at)
  inputs_phase job sound more missing (suc n) p at =
      sym (ap (λ b. cond b (fed (length more) (phase_plan job (suc n, p))) (phase_plan job (suc n, p))) (differ (suc n) 0 (λ e. omega arith) (suc n == 0) refl))

  pub plan_of_inputs : (job : Job B) → Sound job → (more : List (Item B)) (missing : List InputLine) → plan_of (record job { inputs = job.inputs ++ more; missing = missing }) ≡ at_phase 0 (fed (length more)) (plan_of job)
  plan_of_inputs job sound more missing =
      ap {B = Plan} (λ l. record { phases = l; ended = job.ended })
      (map_numbered (phase_plan (record job { inputs = job.inputs ++ more; missing = missing }))
      (λ p. cond (p.0 == 0) (fed (length more) (phase_plan job p)) (phase_plan job p)) job.document.phases (inputs_phase job sound more missing)
      ∙ sym (map-map (λ q. cond (q.phase == 0) (fed (length more) q) q) (phase_plan job) (phases_of job)))

  -- the lines of a post grow the inputs by one each that names an object
  record Posted (rows : Rows B) (lines : List InputLine) (job later : Job B) : Type 0 where
    more : List (Item B)
    is : later ≡ record job { inputs = job.inputs ++ more; missing = later.missing }
    long : length more ≡ inputs_in rows lines

  posted_line : (rows : Rows B) (job : Job B) (l : InputLine) → Posted rows (l ∷ []) job (with_line rows job l)
  posted_line rows job (Named p) = by (object_at rows p) refl
    where
      by : (o : Option (Object B)) → object_at rows p ≡ o → Posted rows (Named p ∷ []) job (with_named p job o)
      by None e = record {
        more = [];
        is = ap (λ i. record (with_named p job None) { inputs = i }) (sym (append-nil job.inputs));
        long = sym (ap (λ o. 0 + cond (is_some o) 1 0) e);
      }
      by (Some object) e = record { more = _; is = refl; long = sym (ap (λ o. 0 + cond (is_some o) 1 0) e) }
  posted_line rows job (Other text) = record { more = []; is = ap (λ i. record (with_line rows job (Other text)) { inputs = i }) (sym (append-nil job.inputs)); long = refl }

  posted_on : (rows : Rows B) (l : InputLine) (ls : List InputLine) (a b c : Job B) → Posted rows (l ∷ []) a b → Posted rows ls b c → Posted rows (l ∷ ls) a c
  posted_on rows l ls a b c p q =
      let one : length p.more ≡ 0 + cond (is_input rows l) 1 0 = p.long in
      let rest : length q.more ≡ inputs_in rows ls = q.long in
      let both = length-append p.more q.more in
      let sum = sum_by-cons (λ l. cond (is_input rows l) 1 0) l ls in
      record {
        more = p.more ++ q.more;
        is = q.is ∙ ap {A = Job B} (λ j. record j { inputs = j.inputs ++ q.more; missing = c.missing }) p.is ∙ ap {A = List (Item B)} (λ i. record a { inputs = i; missing = c.missing }) (append_assoc a.inputs p.more q.more);
        long = omega (arith, one, rest, both, sum);
      }

  posted_lines : (rows : Rows B) (lines : List InputLine) (job : Job B) → Posted rows lines job (with_lines rows lines job)
  posted_lines rows [] job = record { more = []; is = ap (λ i. record job { inputs = i }) (sym (append-nil job.inputs)); long = refl }
  posted_lines rows (l ∷ ls) job = posted_on rows l ls job (with_line rows job l) (with_lines rows ls (with_line rows job l)) (posted_line rows job l) (posted_lines rows ls (with_line rows job l))

  pub plan_lines : PlanLines B
  plan_lines rows lines job sound =
      let posted = posted_lines rows lines job in
      ap plan_of posted.is
      ∙ plan_of_inputs job sound posted.more (with_lines rows lines job).missing
      ∙ ap (λ n. at_phase 0 (fed n) (plan_of job)) posted.long

  pub plan_end : PlanEnd B
  plan_end job = refl

  -- ---- a committed task

  committed_after : (trace : List (TraceEntry B)) (e : TraceEntry B) (i k : ℕ) → is_committed (trace ++ e ∷ []) i k ≡ (is_committed trace i k || ((e.phase == i) && (e.place == k)))
  committed_after trace e i k =
      list_any-append (λ e. (e.phase == i) && (e.place == k)) trace (e ∷ [])
      ∙ ap (λ b. is_committed trace i k || b) (or_false ((e.phase == i) && (e.place == k)))

  -- the items that a committed task adds to a feed
  feed_entry : (e : TraceEntry B) (b : Bool) → items_in (cond b (e ∷ []) []) ≡ cond b (items_of e.outcome) []
  feed_entry e true = append-nil (items_of e.outcome)
  feed_entry e false = refl

  feed_after : (job : Job B) (e : TraceEntry B) (i : ℕ) → feed (with_entry e job) i ≡ feed job i ++ cond (i == e.phase + 1) (items_of e.outcome) []
  feed_after job e zero =
      sym (append-nil job.inputs)
      ∙ ap (λ b. job.inputs ++ cond b (items_of e.outcome) []) (sym (differ 0 (e.phase + 1) (λ same. omega (arith, same)) (0 == e.phase + 1) refl))
  feed_after job e (suc n) =
      ap items_in (filter-append (λ e. e.phase == n) job.trace (e ∷ []))
      ∙ flat_map-append (λ e. items_of e.outcome) (entries_of n job.trace) (cond (e.phase == n) (e ∷ []) [])
      ∙ ap (λ l. feed job (suc n) ++ l) (feed_entry e (e.phase == n) ∙ ap (λ b. cond b (items_of e.outcome) []) (next_phase e.phase n))

  without_case : (i : ℕ) (kind : PhaseKind) (c : ℕ → Bool) (items : List (Item B)) (place : ℕ)
      → plan_at i kind (λ k. c k || (place == k)) items ≡ without_place place (plan_at i kind c items)
  without_case i kind c items place =
      ap {B = PhasePlan} (λ l. record { phase = i; kind = kind; places = task_count kind items; todo = l })
      (filter_agree (λ k. not (c k || (place == k))) (λ k. not (c k) && not (k == place)) (λ k. one (c k) k) (range_with_len 0 (task_count kind items))
      ∙ sym (filter_twice (λ k. not (k == place)) (λ k. not (c k)) (range_with_len 0 (task_count kind items))))
    where
      one : (b : Bool) (k : ℕ) → not (b || (place == k)) ≡ (not b && not (k == place))
      one true k = refl
      one false k = ap not (eqb_flip place k)

  commit_case : (phase place i : ℕ) (kind : PhaseKind) (c : ℕ → Bool) (items outs : List (Item B)) → ((k : ℕ) → task_count kind items ≤ k → c k ≡ false)
      → (a b : Bool) → i == phase ≡ a → i == phase + 1 ≡ b
      → plan_at i kind (λ k. c k || (a && (place == k))) (items ++ cond b outs []) ≡ changed phase place (length outs) (plan_at i kind c items)
  commit_case phase place i kind c items outs none true true p q =
      let here : i ≡ phase = eqb-true i phase p in
      let next : i ≡ phase + 1 = eqb-true i (phase + 1) q in
      absurd (omega (arith, here, next))
  commit_case phase place i kind c items outs none true false p q =
      ap (plan_at i kind (λ k. c k || (place == k))) (append-nil items)
      ∙ without_case i kind c items place
      ∙ sym (ap (λ t. cond t (fed (length outs) (without_place place (plan_at i kind c items))) (without_place place (plan_at i kind c items))) q)
      ∙ sym (ap {B = PhasePlan} (λ t. cond ((cond t (without_place place (plan_at i kind c items)) (plan_at i kind c items)).phase == phase + 1)
      (fed (length outs) (cond t (without_place place (plan_at i kind c items)) (plan_at i kind c items)))
      (cond t (without_place place (plan_at i kind c items)) (plan_at i kind c items))) p)
  commit_case phase place i kind c items outs none false b p q =
      ap (λ d. plan_at i kind d (items ++ cond b outs [])) (same_function (λ k. c k || false) c (λ k. or_false (c k)))
      ∙ by b
      ∙ sym (ap (λ t. cond t (fed (length outs) (plan_at i kind c items)) (plan_at i kind c items)) q)
      ∙ sym (ap {B = PhasePlan} (λ t. cond ((cond t (without_place place (plan_at i kind c items)) (plan_at i kind c items)).phase == phase + 1)
      (fed (length outs) (cond t (without_place place (plan_at i kind c items)) (plan_at i kind c items)))
      (cond t (without_place place (plan_at i kind c items)) (plan_at i kind c items))) p)
    where
      by : (b : Bool) → plan_at i kind c (items ++ cond b outs []) ≡ cond b (fed (length outs) (plan_at i kind c items)) (plan_at i kind c items)
      by true = grow_case i kind c items outs none
      by false = ap (plan_at i kind c) (append-nil items)

  commit_phase : (job : Job B) (e : TraceEntry B) → Sound job → (i : ℕ) (p : Phase) → slice_get job.document.phases i ≡ Some p
      → phase_plan (with_entry e job) (i, p) ≡ changed e.phase e.place (length (items_of e.outcome)) (phase_plan job (i, p))
  commit_phase job e sound i p at =
      ap (plan_at i p.kind (is_committed (job.trace ++ e ∷ []) i)) (feed_after job e i)
      ∙ ap (λ c. plan_at i p.kind c (feed job i ++ cond (i == e.phase + 1) (items_of e.outcome) []))
      (same_function (is_committed (job.trace ++ e ∷ []) i) (λ k. is_committed job.trace i k || ((i == e.phase) && (e.place == k)))
      (λ k. committed_after job.trace e i k ∙ ap (λ b. is_committed job.trace i k || (b && (e.place == k))) (eqb_flip e.phase i)))
      ∙ commit_case e.phase e.place i p.kind (is_committed job.trace i) (feed job i) (items_of e.outcome) (none_beyond job sound i p at) (i == e.phase) (i == e.phase + 1) refl refl

  pub plan_commit : PlanCommit B
  plan_commit job e sound =
      ap {B = Plan} (λ l. record { phases = l; ended = job.ended })
      (map_numbered (phase_plan (with_entry e job)) (λ p. changed e.phase e.place (length (items_of e.outcome)) (phase_plan job p)) job.document.phases (commit_phase job e sound)
      ∙ sym (map-map (changed e.phase e.place (length (items_of e.outcome))) (phase_plan job) (phases_of job))
      ∙ sym (map-map (λ q. cond (q.phase == e.phase + 1) (fed (length (items_of e.outcome)) q) q) (λ q. cond (q.phase == e.phase) (without_place e.place q) q) (map (phase_plan job) (phases_of job))))
