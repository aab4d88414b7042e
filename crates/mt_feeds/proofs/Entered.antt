-- A commit leaves the shares of the phases that have begun as they were.
use Rattle.std.proofs.Common.{◌≡◌, ◌⊎◌, inl, inr, ℕ, ◌+◌, ◌<◌, ◌≤◌, ◌==◌, Bool, true, false, not, cond, ◌&&◌, ◌||◌, List, [], ◌∷◌, ◌++◌, length, take, Option, Some, None, refl, sym, ap, subst, ◌∙◌, arith, zero, suc, append-nil, true≢false}
use Rattle.std.specs.List.{enumerate_from, list_all, range_with_len, slice_get}
use Rattle.std.specs.Option.{unwrap_or}
use Rattle.std.proofs.lemmas.Bool.{cases_lt, ltb-true}
use Rattle.std.proofs.lemmas.List.Elements.{filter-append}
use Rattle.std.proofs.lemmas.List.Folds.{list_any-append}
use Rattle.std.proofs.lemmas.Option.{slice_get_within}
use Rattle.mt_types.specs.declared.document.Phase.{Phase}
use Rattle.mt_types.specs.declared.document.PhaseKind.{PhaseKind}
use Rattle.mt_types.specs.declared.document.PhaseKind.TheVariants.{Map, Reduce}
use Rattle.mt_types.specs.declared.job.Job.{Job}
use Rattle.mt_types.specs.declared.job.TraceEntry.{TraceEntry}
use Rattle.mt_model.specs.Feed.{entries_of, feed, items_in}
use Rattle.mt_model.specs.JobSteps.{with_entry}
use Rattle.mt_model.specs.Tasks.{complete_before, is_committed, is_complete, is_ready, is_running, is_task, is_task_of, may_begin, may_run, phases_of, task_count}
use Rattle.mt_model.proofs.LawfulInputs.{and_left, and_right}
use Rattle.mt_model.proofs.Maps.{same_function}
use Rattle.mt_model.proofs.Traces.{all_range, some_same}
use Rattle.mt_sched.proofs.Filters.{differ, or_false}
use Rattle.mt_feeds.specs.FedJob.{AreShares, all_shares, shares_in}
use Rattle.mt_feeds.specs.Opening.{WereShares}

all_taken : {X : Type 0} (test : X → Bool) (m i : ℕ) (xs : List X) (x : X) → list_all test (take m xs) ≡ true → i < m → slice_get xs i ≡ Some x → test x ≡ true
all_taken test zero i xs x all less at = absurd (omega arith)
all_taken test (suc m) i [] x all less at = cc
all_taken test (suc m) zero (y ∷ xs) x all less at = subst (λ z. test z ≡ true) (ap (λ o. unwrap_or o y) at) (and_left _ _ all)
all_taken test (suc m) (suc i) (y ∷ xs) x all less at = all_taken test m i xs x (and_right (test y) _ all) (omega (arith, less)) at

enumerated : (a n : ℕ) (ps : List Phase) (p : Phase) → slice_get ps n ≡ Some p → slice_get (enumerate_from a ps) n ≡ Some (a + n, p)
enumerated a n [] p at = cc
enumerated a zero (q ∷ ps) p at = let same : a ≡ a + 0 = omega arith in ap (λ m. Some (m, q)) same ∙ ap (λ x. Some (a + 0, x)) (some_same q p at)
enumerated a (suc n) (q ∷ ps) p at = let same : a + 1 + n ≡ a + suc n = omega arith in enumerated (a + 1) n ps p at ∙ ap (λ m. Some (m, p)) same

-- tests that agree at the first numbers hold alike of the first phases
all_same : (f g : ℕ × Phase → Bool) (n a : ℕ) (ps : List Phase) → ((i : ℕ) (q : Phase) → i < a + n → f (i, q) ≡ g (i, q)) → list_all f (take n (enumerate_from a ps)) ≡ list_all g (take n (enumerate_from a ps))
all_same f g zero a ps same = refl
all_same f g (suc n) a [] same = refl
all_same f g (suc n) a (p ∷ ps) same =
    ap (λ b. b && list_all f (take n (enumerate_from (a + 1) ps))) (same a p (omega arith))
    ∙ ap (λ b. g (a, p) && b) (all_same f g n (a + 1) ps (λ i q less. same i q (omega (arith, less))))

module _ {B : Type 0} where
  committed_after : (trace : List (TraceEntry B)) (e : TraceEntry B) (i k : ℕ) → is_committed (trace ++ e ∷ []) i k ≡ (is_committed trace i k || ((e.phase == i) && (e.place == k)))
  committed_after trace e i k =
      list_any-append (λ e. (e.phase == i) && (e.place == k)) trace (e ∷ [])
      ∙ ap (λ b. is_committed trace i k || b) (or_false ((e.phase == i) && (e.place == k)))

  feed_stays : (job : Job B) (e : TraceEntry B) (i : ℕ) → i ≤ e.phase → feed (with_entry e job) i ≡ feed job i
  feed_stays job e zero le = refl
  feed_stays job e (suc n) le =
      ap items_in (filter-append (λ e. e.phase == n) job.trace (e ∷ []))
      ∙ ap (λ b. items_in (entries_of n job.trace ++ cond b (e ∷ []) [])) (differ e.phase n (λ same. omega (arith, same, le)) (e.phase == n) refl)
      ∙ ap items_in (append-nil (entries_of n job.trace))

  complete_stays : (job : Job B) (e : TraceEntry B) (i : ℕ) (q : Phase) → i < e.phase → is_complete (with_entry e job) (i, q) ≡ is_complete job (i, q)
  complete_stays job e i q less =
      ap (λ l. list_all (is_committed (job.trace ++ e ∷ []) i) (range_with_len 0 (task_count q.kind l))) (feed_stays job e i (omega (arith, less)))
      ∙ ap (λ t. list_all t (range_with_len 0 (task_count q.kind (feed job i))))
      (same_function (is_committed (job.trace ++ e ∷ []) i) (is_committed job.trace i)
      (λ k. committed_after job.trace e i k
      ∙ ap (λ b. is_committed job.trace i k || (b && (e.place == k))) (differ e.phase i (λ same. omega (arith, same, less)) (e.phase == i) refl)
      ∙ or_false (is_committed job.trace i k)))

  before_stays : (job : Job B) (e : TraceEntry B) (n : ℕ) → n ≤ e.phase → complete_before (with_entry e job) n ≡ complete_before job n
  before_stays job e n le = all_same (is_complete (with_entry e job)) (is_complete job) n 0 job.document.phases (λ i q less. complete_stays job e i q (omega (arith, less, le)))

  begin_stays : (job : Job B) (e : TraceEntry B) (n : ℕ) (kind : PhaseKind) → n ≤ e.phase → may_begin (with_entry e job) n kind ≡ may_begin job n kind
  begin_stays job e n Map le = refl
  begin_stays job e n (Reduce count) le = ap (λ b. job.ended && b) (before_stays job e n le)

  -- the shares of a phase that is not behind the entry stay
  shares_stay : (job : Job B) (e : TraceEntry B) (n : ℕ) (kind : PhaseKind) → n ≤ e.phase → shares_in (is_running job && may_begin job n kind) kind (feed job n) ≡ shares_in (is_running (with_entry e job) && may_begin (with_entry e job) n kind) kind (feed (with_entry e job) n)
  shares_stay job e n kind le =
      ap (λ b. shares_in (is_running job && b) kind (feed job n)) (sym (begin_stays job e n kind le))
      ∙ ap (shares_in (is_running job && may_begin (with_entry e job) n kind) kind) (sym (feed_stays job e n le))

  -- ---- a ready task

  pub ready_runs : (job : Job B) (phase place : ℕ) → is_ready job phase place ≡ true → is_running job ≡ true
  ready_runs job phase place ready = and_left (is_running job) (is_task job phase place) (and_left (may_run job phase place) (not (is_committed job.trace phase place)) ready)

  within_case : (job : Job B) (phase place : ℕ) (o : Option Phase) → slice_get job.document.phases phase ≡ o → is_task_of job phase place o ≡ true → phase < length job.document.phases
  within_case job phase place None at is = cc
  within_case job phase place (Some p) at is = slice_get_within job.document.phases phase p at

  pub ready_within : (job : Job B) (phase place : ℕ) → is_ready job phase place ≡ true → phase < length job.document.phases
  ready_within job phase place ready =
      within_case job phase place (slice_get job.document.phases phase) refl
      (and_right (is_running job) (is_task job phase place) (and_left (may_run job phase place) (not (is_committed job.trace phase place)) ready))

  -- the task of the entry was not committed, and its phase not complete
  module _ (job : Job B) (e : TraceEntry B) (ready : is_ready job e.phase e.place ≡ true) where
    task : is_task job e.phase e.place ≡ true
    task = and_right (is_running job) _ (and_left (may_run job e.phase e.place) _ ready)

    free : is_committed job.trace e.phase e.place ≡ false
    free = by (is_committed job.trace e.phase e.place) (and_right (may_run job e.phase e.place) _ ready)
      where
        by : (b : Bool) → not b ≡ true → b ≡ false
        by true never = cc
        by false never = refl

    not_complete : (n : ℕ) → e.phase < n → (o : Option Phase) → slice_get job.document.phases e.phase ≡ o → is_task_of job e.phase e.place o ≡ true → complete_before job n ≡ true → ⊥
    not_complete n less None at is all = cc
    not_complete n less (Some p) at is all =
        let here : 0 + e.phase ≡ e.phase = omega arith in
        let whole : is_complete job (0 + e.phase, p) ≡ true = all_taken (is_complete job) n e.phase (phases_of job) (0 + e.phase, p) all less (enumerated 0 e.phase job.document.phases p at) in
        let whole_here : is_complete job (e.phase, p) ≡ true = subst (λ m. is_complete job (m, p) ≡ true) here whole in
        let within : e.place < task_count p.kind (feed job e.phase) = ltb-true e.place (task_count p.kind (feed job e.phase)) (and_right (may_begin job e.phase p.kind) _ is) in
        let there : is_committed job.trace e.phase (0 + e.place) ≡ true = all_range (is_committed job.trace e.phase) 0 (task_count p.kind (feed job e.phase)) e.place whole_here within in
        let same : 0 + e.place ≡ e.place = omega arith in
        true≢false (sym there ∙ ap (is_committed job.trace e.phase) same ∙ free)

    not_behind : (n : ℕ) → complete_before job n ≡ true → n ≤ e.phase
    not_behind n all = by (cases_lt e.phase n)
      where
        by : (e.phase < n) ⊎ (n ≤ e.phase) → n ≤ e.phase
        by (inl less) = absurd (not_complete n less (slice_get job.document.phases e.phase) refl task all)
        by (inr le) = le

    begun_case : (n count : ℕ) (lists : List (List ℕ)) (b : Bool) → (is_running job && may_begin job n (Reduce count)) ≡ b → lists ≡ cond b (all_shares (feed job n) count) []
        → (lists ≡ []) ⊎ (lists ≡ shares_in (is_running (with_entry e job) && may_begin (with_entry e job) n (Reduce count)) (Reduce count) (feed (with_entry e job) n))
    begun_case n count lists false begun is = inl is
    begun_case n count lists true begun is =
        let le : n ≤ e.phase = not_behind n (and_right job.ended _ (and_right (is_running job) _ begun)) in
        inr (is ∙ sym (ap (λ b. cond b (all_shares (feed job n) count) []) begun) ∙ shares_stay job e n (Reduce count) le)

    kind_case : (n : ℕ) (kind : PhaseKind) (lists : List (List ℕ)) → lists ≡ shares_in (is_running job && may_begin job n kind) kind (feed job n)
        → (lists ≡ []) ⊎ (lists ≡ shares_in (is_running (with_entry e job) && may_begin (with_entry e job) n kind) kind (feed (with_entry e job) n))
    kind_case n Map lists is = inl is
    kind_case n (Reduce count) lists is = begun_case n count lists (is_running job && may_begin job n (Reduce count)) refl is

    pub were_entered : (laid : List (List (List ℕ))) → AreShares job laid → WereShares (with_entry e job) laid
    were_entered laid are = record { each = are.each; right = λ n p lists at found. kind_case n p.kind lists (are.right n p lists at found) }
