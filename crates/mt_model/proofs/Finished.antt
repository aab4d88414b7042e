-- The promise of a finished job, from what is known of histories and of traces.
use Rattle.std.proofs.Common.{◌≡◌, ℕ, ◌+◌, ◌==◌, Bool, true, false, not, List, [], ◌∷◌, length, map, Option, Some, None, refl, sym, ap, subst, ◌∙◌, arith, zero, suc}
use Rattle.std.specs.Prelude.{All}
use Rattle.std.specs.List.{Contains, enumerate_from, slice_get}
use Rattle.mt_types.specs.declared.command.Command.{Command}
use Rattle.mt_types.specs.declared.document.JobDocument.{JobDocument}
use Rattle.mt_types.specs.declared.document.Phase.{Phase}
use Rattle.mt_types.specs.declared.job.Item.{Item}
use Rattle.mt_types.specs.declared.job.Job.{Job}
use Rattle.mt_types.specs.declared.job.TraceEntry.{TraceEntry}
use Rattle.mt_types.specs.declared.task.Fate.{Fate}
use Rattle.mt_types.specs.declared.task.Raw.{Raw}
use Rattle.mt_types.specs.declared.task.Run.{Run}
use Rattle.mt_model.specs.CommandStep.{replay}
use Rattle.mt_model.specs.Feed.{entries_of, feed, items_in}
use Rattle.mt_model.specs.Meaning.{IsEachTaskOnce, Means}
use Rattle.mt_model.specs.Sound.{Sound}
use Rattle.mt_model.specs.State.{first_state}
use Rattle.mt_model.specs.Tasks.{all_complete, phases_of}
use Rattle.mt_model.proofs.LawfulInputs.{and_left, and_right}
use Rattle.mt_model.proofs.Traces.{once_each}
use Rattle.mt_types.specs.WellMade.{HasReducers, IsDocument, IsDocumentPhase}
use Rattle.mt_model.proofs.Maps.{same_function}
use Rattle.mt_model.specs.Tasks.{reads_place, reducer_of}
use Rattle.std.specs.Prelude.{◌%◌}
use Rattle.std.specs.List.{count_by}
use Rattle.std.proofs.lemmas.Bool.{eqb-true, lt-ltb}
use Rattle.std.proofs.lemmas.Nat.{mod_below}
use Rattle.std.proofs.lemmas.List.Elements.{All-nil, All-cons}
use Rattle.mt_model.specs.Resolve.{resolve}
use Rattle.mt_model.specs.Tasks.{input_of, is_task_of, root_at}
use Rattle.mt_model.specs.Honest.{MayGive, itself}
use Rattle.mt_model.specs.Tasks.{run_over}
use Rattle.mt_model.proofs.Traces.{some_same}
use Rattle.mt_model.proofs.Same.{same_at, same_run}
use Rattle.mt_model.proofs.Shares.{beyond, reads_map, reads_share}
use Rattle.mt_model.specs.Posted.{posted_from}
use Rattle.mt_model.proofs.LawfulHistories.{taken_honest}
use Rattle.mt_model.proofs.Posts.{inputs_posted}
use Rattle.mt_model.proofs.Stood.{HasStood, Stood, all_stand, all_stood}
use Rattle.mt_model.proofs.Standing.{StandingJob}
use Rattle.std.specs.List.{AllByRecursion}
use Rattle.mt_types.specs.Limits.{is_count}
use Rattle.std.proofs.lemmas.Bool.{leb-true}
use Rattle.mt_types.specs.declared.document.PhaseKind.{PhaseKind}
use Rattle.mt_types.specs.declared.document.PhaseKind.TheVariants.{Map, Reduce}
use Rattle.std.proofs.Common.{cond, eq-eqb, true≢false, ◌<◌, ◌≤◌}
use Rattle.mt_model.specs.Honest.{Bytes, Honest}
use Rattle.mt_model.specs.Finished.{AreReadOnce, FinishedJobsMean, IsGiven, IsReadOnce, is_finished, outputs_of}

-- ---- of one job alone

turned : (a b : ℕ) (t u : Bool) → a == b ≡ t → b == a ≡ u → t ≡ u
turned a b true true p q = refl
turned a b true false p q = let is : b == a ≡ true = eq-eqb b a (sym (eqb-true a b p)) in absurd (true≢false (sym is ∙ q))
turned a b false true p q = let is : a == b ≡ true = eq-eqb a b (sym (eqb-true b a q)) in absurd (true≢false (sym is ∙ p))
turned a b false false p q = refl

not_true : (b : Bool) → not b ≡ true → b ≡ false
not_true true e = cc
not_true false e = refl

-- a job that is finished has ended and is complete
complete : (job : Job Bytes) → Sound job → is_finished job ≡ true → all_complete job ≡ true
complete job s done = (s.finished (and_left _ _ done) (not_true _ (and_right _ _ done))).1

has_ended : (job : Job Bytes) → Sound job → is_finished job ≡ true → job.ended ≡ true
has_ended job s done = (s.finished (and_left _ _ done) (not_true _ (and_right _ _ done))).0

-- each phase of a document has reducers
phase_at : (ps : List Phase) → AllByRecursion IsDocumentPhase ps → (n : ℕ) (p : Phase) → slice_get ps n ≡ Some p → IsDocumentPhase p
phase_at [] all n p at = cc
phase_at (q ∷ ps) all zero p at = subst IsDocumentPhase (some_same q p at) all.0
phase_at (q ∷ ps) all (suc n) p at = phase_at ps all.1 n p at

reducers_at : (d : JobDocument) → IsDocument d → (n : ℕ) (p : Phase) → slice_get d.phases n ≡ Some p → HasReducers p.kind
reducers_at d is n p at = (phase_at d.phases is.phases n p at).kind

some_count : (count : ℕ) → is_count count ≡ true → 0 < count
some_count count is = let least : 1 ≤ count = leb-true 1 count (and_left _ _ is) in omega arith

-- where each task of a phase stands once, each item of its feed is read once
count_place : (k : ℕ) (es : List (TraceEntry Bytes)) → count_by (λ e. k == e.place) es ≡ count_by (λ e. e.place == k) es
count_place k es = ap (λ t. count_by t es) (same_function (λ e. k == e.place) (λ e. e.place == k) (λ e. turned k e.place (k == e.place) (e.place == k) refl refl))

read_once : (kind : PhaseKind) → HasReducers kind → (items : List (Item Bytes)) (entries : List (TraceEntry Bytes)) → IsEachTaskOnce kind items entries → IsReadOnce kind items entries
read_once Map some items entries once k less =
    ap (λ t. count_by t entries) (same_function (λ (e : TraceEntry Bytes). reads_place Map items k e.place) (λ e. e.place == k) (λ e. reads_map items k e.place less))
    ∙ once k ∙ ap (λ b. cond b 1 0) (lt-ltb k (length items) less)
read_once (Reduce count) some items entries once k less = by (slice_get items k) refl
  where
    by : (o : Option (Item Bytes)) → slice_get items k ≡ o → count_by (λ (e : TraceEntry Bytes). reads_place (Reduce count) items k e.place) entries ≡ 1
    by None at = let past = beyond items k at in absurd (omega (arith, past, less))
    by (Some i) at =
        let r : ℕ = reducer_of (k, i) % count in
        ap (λ t. count_by t entries) (same_function (λ (e : TraceEntry Bytes). reads_place (Reduce count) items k e.place) (λ e. r == e.place) (λ e. reads_share items count (some_count count some) k e.place i at))
        ∙ count_place r entries ∙ once r ∙ ap (λ b. cond b 1 0) (lt-ltb r count (mod_below (reducer_of (k, i)) count (some_count count some)))

module _ (login : List ℕ) (gives : Run → Bytes → Raw → Type 0) (fate_of : Raw → Fate Bytes) where
  contained : (P : Job Bytes → Type 0) (jobs : List (Job Bytes)) (job : Job Bytes) → All P jobs → Contains jobs job → P job
  contained P jobs job all there = subst P there.2 (all there.0 job there.1)

  -- each job of an honest history stands
  stands : (h : List (Command Bytes)) → Honest login gives fate_of h → (job : Job Bytes) → Contains (replay first_state h).jobs job → StandingJob (replay first_state h).count job
  stands h honest job there = contained (StandingJob (replay first_state h).count) (replay first_state h).jobs job (all_stand login gives fate_of h honest).each there

  -- so it is given, over what its phase reads at the end
  module _ (h : List (Command Bytes)) (job : Job Bytes) (s : Sound job) where
    given_at : (n k : ℕ) (p : Phase) (e : TraceEntry Bytes) → slice_get job.document.phases n ≡ Some p → e.phase ≡ n → Stood login gives fate_of h job k e → IsGiven login gives fate_of h job n p (feed job n) e
    given_at n k p e at is t =
        let docs : slice_get t.j.document.phases e.phase ≡ Some p = ap (λ d. slice_get d.phases e.phase) t.earlier.document ∙ ap (slice_get job.document.phases) is ∙ at in
        let one : t.p ≡ p = some_same t.p p (sym t.has ∙ docs) in
        let task : is_task_of t.j e.phase e.place (Some p) ≡ true = subst (λ o. is_task_of t.j e.phase e.place o ≡ true) docs t.task in
        let same = same_at t.j k job t.earlier s e.phase e.place p task in
        let gave : MayGive login gives fate_of t.j e.phase e.place p (feed t.j e.phase) t.raw = subst (λ q. MayGive login gives fate_of t.j e.phase e.place q (feed t.j e.phase) t.raw) one t.given in
        let gave_run : gives (run_over itself login job e.phase e.place p (feed job e.phase)) (input_of itself p.kind (feed t.j e.phase) e.place) t.raw =
        subst (λ r. gives r (input_of itself p.kind (feed t.j e.phase) e.place) t.raw) (same_run t.j k job t.earlier login e.phase e.place p same) gave in
        let gave_here : MayGive login gives fate_of job e.phase e.place p (feed job e.phase) t.raw =
        subst (λ i. gives (run_over itself login job e.phase e.place p (feed job e.phase)) i t.raw) (sym same.input) gave_run in
        let out : e.outcome ≡ (resolve (record { job = job.number; phase = e.phase; root = root_at p.kind (feed job e.phase) e.place; position = e.position; moment = t.moment }) (replay first_state t.before).rows (fate_of t.raw)).outcome =
        t.outcome
        ∙ ap (λ q. (resolve (record { job = t.j.number; phase = e.phase; root = root_at q.kind (feed t.j e.phase) e.place; position = e.position; moment = t.moment }) (replay first_state t.before).rows (fate_of t.raw)).outcome) one
        ∙ ap (λ m. (resolve (record { job = m; phase = e.phase; root = root_at p.kind (feed t.j e.phase) e.place; position = e.position; moment = t.moment }) (replay first_state t.before).rows (fate_of t.raw)).outcome) t.earlier.number
        ∙ ap (λ r. (resolve (record { job = job.number; phase = e.phase; root = r; position = e.position; moment = t.moment }) (replay first_state t.before).rows (fate_of t.raw)).outcome) (sym same.root) in
        subst (λ m. IsGiven login gives fate_of h job m p (feed job m) e) is (record {
          before = t.before;
          after = t.after;
          raw = t.raw;
          moment = t.moment;
          stands = t.stands;
          position = t.position;
          of_phase = refl;
          given = gave_here;
          outcome = out;
          held = t.held;
        })

    given_in : (n : ℕ) (p : Phase) → slice_get job.document.phases n ≡ Some p → (es : List (TraceEntry Bytes)) → ((k : ℕ) (e : TraceEntry Bytes) → slice_get es k ≡ Some e → (m : ℕ) × Stood login gives fate_of h job m e)
        → All (IsGiven login gives fate_of h job n p (feed job n)) (entries_of n es)
    given_in n p at [] each = All-nil (IsGiven login gives fate_of h job n p (feed job n))
    given_in n p at (e ∷ es) each = by (e.phase == n) refl (given_in n p at es (λ k d there. each (suc k) d there))
      where
        by : (b : Bool) → e.phase == n ≡ b → All (IsGiven login gives fate_of h job n p (feed job n)) (entries_of n es) → All (IsGiven login gives fate_of h job n p (feed job n)) (cond b (e ∷ entries_of n es) (entries_of n es))
        by true t more = let here = each 0 e refl in All-cons (IsGiven login gives fate_of h job n p (feed job n)) e (entries_of n es) (given_at n here.0 p e at (eqb-true e.phase n t) here.1) more
        by false t more = more

  entries_given : (h : List (Command Bytes)) → Honest login gives fate_of h → (job : Job Bytes) → Contains (replay first_state h).jobs job → Sound job
      → (n : ℕ) (p : Phase) → slice_get job.document.phases n ≡ Some p → All (IsGiven login gives fate_of h job n p (feed job n)) (entries_of n job.trace)
  entries_given h honest job there s n p at = given_in h job s n p at job.trace (λ k e is. (k, contained (HasStood login gives fate_of h) (replay first_state h).jobs job (all_stood login gives fate_of h honest) there k e is))

  -- ---- the phases from one on

  module _ (h : List (Command Bytes)) (job : Job Bytes)
      (tasks : (n : ℕ) (p : Phase) → slice_get job.document.phases n ≡ Some p → IsEachTaskOnce p.kind (feed job n) (entries_of n job.trace))
      (some : (n : ℕ) (p : Phase) → slice_get job.document.phases n ≡ Some p → HasReducers p.kind)
      (given : (n : ℕ) (p : Phase) → slice_get job.document.phases n ≡ Some p → All (IsGiven login gives fate_of h job n p (feed job n)) (entries_of n job.trace)) where
    feed_suc : (n : ℕ) → feed job (n + 1) ≡ items_in (entries_of n job.trace)
    feed_suc n = let e : n + 1 ≡ suc n = omega arith in ap (feed job) e

    none_more : (n : ℕ) → n ≡ n + 0
    none_more n = omega arith

    one_more : (n k : ℕ) → n + suc k ≡ (n + 1) + k
    one_more n k = omega arith

    abbrev Stand : ℕ → List Phase → Type 0
    Stand n ps = (k : ℕ) (p : Phase) → slice_get ps k ≡ Some p → slice_get job.document.phases (n + k) ≡ Some p

    stand_here : (n : ℕ) (p : Phase) (ps : List Phase) → Stand n (p ∷ ps) → slice_get job.document.phases n ≡ Some p
    stand_here n p ps stand = subst (λ m. slice_get job.document.phases m ≡ Some p) (sym (none_more n)) (stand 0 p refl)

    stand_on : (n : ℕ) (p : Phase) (ps : List Phase) → Stand n (p ∷ ps) → Stand (n + 1) ps
    stand_on n p ps stand k q at = subst (λ m. slice_get job.document.phases m ≡ Some q) (one_more n k) (stand (suc k) q at)

    length_on : (n : ℕ) (p : Phase) (ps : List Phase) → (n + 1) + length ps ≡ n + length (p ∷ ps)
    length_on n p ps = omega arith

    abbrev From : ℕ → List Phase → List (Item Bytes) → List (Item Bytes) → Type 0
    From n ps items outputs = Means (IsGiven login gives fate_of h job) n ps items (map (λ p. entries_of p.0 job.trace) (enumerate_from n ps)) outputs

    phases_from : (n : ℕ) (ps : List Phase) (items : List (Item Bytes)) → items ≡ feed job n → Stand n ps → From n ps items (feed job (n + length ps))
    phases_from n [] items is stand = is ∙ ap (feed job) (none_more n)
    phases_from n (p ∷ ps) items is stand =
        let here : slice_get job.document.phases n ≡ Some p = stand_here n p ps stand in
        let more = phases_from (n + 1) ps (items_in (entries_of n job.trace)) (sym (feed_suc n)) (stand_on n p ps stand) in (
          subst (λ x. IsEachTaskOnce p.kind x (entries_of n job.trace)) (sym is) (tasks n p here),
          subst (λ x. All (IsGiven login gives fate_of h job n p x) (entries_of n job.trace)) (sym is) (given n p here),
          subst (λ x. From (n + 1) ps (items_in (entries_of n job.trace)) (feed job x)) (length_on n p ps) more,
        )

    reads_from : (n : ℕ) (ps : List Phase) → Stand n ps → AreReadOnce job (enumerate_from n ps)
    reads_from n [] stand = tt
    reads_from n (p ∷ ps) stand = (read_once p.kind (some n p (stand_here n p ps stand)) (feed job n) (entries_of n job.trace) (tasks n p (stand_here n p ps stand)), reads_from (n + 1) ps (stand_on n p ps stand))

    none_before : (k : ℕ) → 0 + k ≡ k
    none_before k = omega arith

    each_stands : Stand 0 job.document.phases
    each_stands k p at = subst (λ m. slice_get job.document.phases m ≡ Some p) (sym (none_before k)) at

    all_phases : From 0 job.document.phases job.inputs (outputs_of job)
    all_phases = subst (λ x. From 0 job.document.phases job.inputs (feed job x)) (none_before (length job.document.phases)) (phases_from 0 job.document.phases job.inputs refl each_stands)

    all_reads : AreReadOnce job (phases_of job)
    all_reads = reads_from 0 job.document.phases each_stands

  pub finished_jobs_mean : FinishedJobsMean login gives fate_of
  finished_jobs_mean h honest job there done =
      let stand = stands h honest job there in
      let tasks = once_each job stand.sound (complete job stand.sound done) in
      let some = reducers_at job.document stand.document in
      let given = entries_given h honest job there stand.sound in
      record { ended = has_ended job stand.sound done; inputs = contained (λ (j : Job Bytes). j.inputs ≡ posted_from first_state h j.number) (replay first_state h).jobs job (inputs_posted length h (taken_honest login gives fate_of first_state h honest)) there; means = all_phases h job tasks some given; once = all_reads h job tasks some given }
