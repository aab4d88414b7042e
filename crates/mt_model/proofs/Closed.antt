-- A feed no longer grows once all phases before it are complete and the input has ended.
use Rattle.std.proofs.Common.{◌≡◌, ℕ, ◌+◌, ◌<◌, ◌≤◌, ◌==◌, Bool, true, false, cond, ◌||◌, List, [], ◌∷◌, ◌++◌, Option, Some, None, refl, sym, ap, subst, ◌∙◌, arith, zero, suc, true≢false, append-nil}
use Rattle.std.specs.Prelude.{take, drop}
use Rattle.std.specs.List.{slice_get, list_all, enumerate_from}
use Rattle.std.specs.Option.{unwrap_or}
use Rattle.std.proofs.lemmas.Bool.{eqb-true}
use Rattle.mt_types.specs.declared.document.Phase.{Phase}
use Rattle.mt_types.specs.declared.job.Job.{Job}
use Rattle.mt_types.specs.declared.job.TraceEntry.{TraceEntry}
use Rattle.mt_model.specs.Feed.{entries_of, feed, items_in}
use Rattle.mt_model.specs.Sound.{Sound, before}
use Rattle.mt_model.specs.Tasks.{complete_before, is_committed, is_complete, is_task_of, phases_of, task_count}
use Rattle.mt_model.proofs.LawfulInputs.{and_left, and_right, and_both}
use Rattle.mt_model.proofs.Traces.{all_range, is_at, items_front, some_same, task_within}

pub all_taken : {X : Type 0} (test : X → Bool) (m i : ℕ) (xs : List X) (x : X) → list_all test (take m xs) ≡ true → i < m → slice_get xs i ≡ Some x → test x ≡ true
all_taken test zero i xs x all less at = absurd (omega arith)
all_taken test (suc m) i [] x all less at = cc
all_taken test (suc m) zero (y ∷ xs) x all less at = subst (λ z. test z ≡ true) (ap (λ o. unwrap_or o y) at) (and_left _ _ all)
all_taken test (suc m) (suc i) (y ∷ xs) x all less at = all_taken test m i xs x (and_right (test y) _ all) (omega arith) at

fewer_taken : {X : Type 0} (test : X → Bool) (m : ℕ) (xs : List X) → list_all test (take (suc m) xs) ≡ true → list_all test (take m xs) ≡ true
fewer_taken test zero xs all = refl
fewer_taken test (suc m) [] all = refl
fewer_taken test (suc m) (x ∷ xs) all = and_both (test x) _ (and_left _ _ all) (fewer_taken test m xs (and_right (test x) _ all))

pub enumerated : (a n : ℕ) (ps : List Phase) (p : Phase) → slice_get ps n ≡ Some p → slice_get (enumerate_from a ps) n ≡ Some (a + n, p)
enumerated a n [] p at = cc
enumerated a zero (q ∷ ps) p at = let same : a ≡ a + 0 = omega arith in ap (λ m. Some (m, q)) same ∙ ap (λ x. Some (a + 0, x)) (some_same q p at)
enumerated a (suc n) (q ∷ ps) p at = let same : a + 1 + n ≡ a + suc n = omega arith in enumerated (a + 1) n ps p at ∙ ap (λ m. Some (m, p)) same

drop_at : {X : Type 0} (k i : ℕ) (xs : List X) → slice_get (drop k xs) i ≡ slice_get xs (k + i)
drop_at zero i xs = let same : i ≡ 0 + i = omega arith in ap (slice_get xs) same
drop_at (suc k) i [] = refl
drop_at (suc k) i (x ∷ xs) = let same : suc (k + i) ≡ suc k + i = omega arith in drop_at k i xs ∙ ap (slice_get (x ∷ xs)) same

stays_case : (b : Bool) (p q : Bool) → (p ≡ true → q ≡ true) → (b || p) ≡ true → (b || q) ≡ true
stays_case true p q more e = refl
stays_case false p q more e = more e

module _ {B : Type 0} where
  committed_stays : (n place k i : ℕ) (es : List (TraceEntry B)) → k ≤ i → is_committed (take k es) n place ≡ true → is_committed (take i es) n place ≡ true
  committed_stays n place zero i es le t = absurd (true≢false (sym t))
  committed_stays n place (suc k) i [] le t = absurd (true≢false (sym t))
  committed_stays n place (suc k) zero (e ∷ es) le t = absurd (omega arith)
  committed_stays n place (suc k) (suc i) (e ∷ es) le t = stays_case (is_at n place e) _ _ (committed_stays n place k i es (omega arith)) t

  none_left : (n : ℕ) (es : List (TraceEntry B)) → ((i : ℕ) (e : TraceEntry B) → slice_get es i ≡ Some e → e.phase ≡ n → ⊥) → entries_of n es ≡ []
  none_left n [] none = refl
  none_left n (e ∷ es) none = by (e.phase == n) refl (none_left n es (λ i d at. none (suc i) d at))
    where
      by : (b : Bool) → e.phase == n ≡ b → entries_of n es ≡ [] → cond b (e ∷ entries_of n es) (entries_of n es) ≡ []
      by true t more = absurd (none 0 e refl (eqb-true e.phase n t))
      by false t more = more

  module _ (job : Job B) (s : Sound job) (k : ℕ) where
    -- no task of a complete phase stands behind, where its feed is as it was
    none_behind : (n : ℕ) → feed (before job k) n ≡ feed job n → (o : Option Phase) → slice_get job.document.phases n ≡ o
        → ((p : Phase) → o ≡ Some p → is_complete (before job k) (n, p) ≡ true)
        → (i : ℕ) (e : TraceEntry B) → slice_get (drop k job.trace) i ≡ Some e → e.phase ≡ n → ⊥
    none_behind n same None here complete i e at is =
        let task = s.tasks (k + i) e (sym (drop_at k i job.trace) ∙ at) in
        let gone : slice_get job.document.phases e.phase ≡ None = ap (slice_get job.document.phases) is ∙ here in
        let none : is_task_of (before job (k + i)) e.phase e.place None ≡ true = subst (λ o. is_task_of (before job (k + i)) e.phase e.place o ≡ true) gone task in
        true≢false (sym none)
    none_behind n same (Some p) here complete i e at is =
        let there : slice_get job.trace (k + i) ≡ Some e = sym (drop_at k i job.trace) ∙ at in
        let within : e.place < task_count p.kind (feed job e.phase) =
        task_within job (k + i) e.phase e.place (slice_get job.document.phases e.phase) p (ap (slice_get job.document.phases) is ∙ here) (s.tasks (k + i) e there) in
        let less : e.place < task_count p.kind (feed (before job k) n) = subst (λ x. e.place < task_count p.kind x) (sym same) (subst (λ m. e.place < task_count p.kind (feed job m)) is within) in
        let first : 0 + e.place ≡ e.place = omega arith in
        let then : is_committed (take k job.trace) n e.place ≡ true =
        subst (λ m. is_committed (take k job.trace) n m ≡ true) first (all_range (is_committed (take k job.trace) n) 0 (task_count p.kind (feed (before job k) n)) e.place (complete p refl) less) in
        let now : is_committed (take (k + i) job.trace) n e.place ≡ true = committed_stays n e.place k (k + i) job.trace (omega arith) then in
        let not_now : is_committed (take (k + i) job.trace) n e.place ≡ false = subst (λ m. is_committed (take (k + i) job.trace) m e.place ≡ false) is (s.once (k + i) e there) in
        true≢false (sym now ∙ not_now)

    phase_complete : (n : ℕ) (p : Phase) → complete_before (before job k) (suc n) ≡ true → slice_get job.document.phases n ≡ Some p → is_complete (before job k) (n, p) ≡ true
    phase_complete n p all at =
        let start : 0 + n ≡ n = omega arith in
        subst (λ m. is_complete (before job k) (m, p) ≡ true) start
        (all_taken (is_complete (before job k)) (suc n) n (phases_of (before job k)) (0 + n, p) all (omega arith) (enumerated 0 n job.document.phases p at))

    -- what a phase reads is what it reads at the end, once all phases before it are complete
    pub closed : (n : ℕ) → complete_before (before job k) n ≡ true → feed (before job k) n ≡ feed job n
    closed zero all = refl
    closed (suc n) all =
        let earlier : feed (before job k) n ≡ feed job n = closed n (fewer_taken (is_complete (before job k)) n (phases_of (before job k)) all) in
        let none : entries_of n (drop k job.trace) ≡ [] = none_left n (drop k job.trace) (none_behind n earlier (slice_get job.document.phases n) refl (λ p at. phase_complete n p all at)) in
        sym (items_front n k job.trace ∙ ap (λ x. items_in (entries_of n (take k job.trace)) ++ items_in x) none ∙ append-nil (items_in (entries_of n (take k job.trace))))
