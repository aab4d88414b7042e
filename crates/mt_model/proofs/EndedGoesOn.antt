-- A job that runs, whose input has ended and of which no task is ready, waits to be finished.
use Rattle.std.proofs.Common.{◌≡◌, ℕ, ◌+◌, ◌<◌, ◌≤◌, Bool, true, false, cond, not, ◌&&◌, List, [], ◌∷◌, ◌++◌, length, map, Option, Some, None, refl, sym, ap, subst, ◌∙◌, arith, zero, suc}
use Rattle.std.specs.List.{enumerate_from, filter, flat_map, list_all, range_with_len, slice_get}
use Rattle.std.proofs.lemmas.Bool.{lt-ltb}
use Rattle.std.proofs.lemmas.List.{take_all}
use Rattle.std.proofs.lemmas.List.Concat.{flat_map-cons}
use Rattle.std.proofs.lemmas.Option.{same_Some}
use Rattle.mt_types.specs.declared.document.Phase.{Phase}
use Rattle.mt_types.specs.declared.document.PhaseKind.{PhaseKind}
use Rattle.mt_types.specs.declared.document.PhaseKind.TheVariants.{Map, Reduce}
use Rattle.mt_types.specs.declared.job.Job.{Job}
use Rattle.mt_types.specs.declared.job.Task.{Task}
use Rattle.mt_model.specs.Feed.{feed}
use Rattle.mt_model.specs.Later.{EndedGoesOn}
use Rattle.mt_model.specs.Tasks.{all_complete, complete_before, is_committed, is_complete, is_ready, is_running, is_task, is_task_of, may_begin, may_run, phases_of, task_count, task_of}
use Rattle.mt_model.proofs.Closed.{enumerated}
use Rattle.mt_model.proofs.LawfulInputs.{and_both}
use Rattle.mt_model.proofs.TasksStay.{longer}

empty_front : {X : Type 0} (xs ys : List X) → xs ++ ys ≡ [] → xs ≡ []
empty_front [] ys e = refl
empty_front (x ∷ xs) ys e = cc

empty_rest : {X : Type 0} (xs ys : List X) → xs ++ ys ≡ [] → ys ≡ []
empty_rest [] ys e = e
empty_rest (x ∷ xs) ys e = cc

empty_map : {X Y : Type 0} (f : X → Y) (xs : List X) → map f xs ≡ [] → xs ≡ []
empty_map f [] e = refl
empty_map f (x ∷ xs) e = cc

not_false : (b : Bool) → not b ≡ false → b ≡ true
not_false true e = refl
not_false false e = cc

-- nothing of a range passes a test
none_pass : (t u : ℕ → Bool) (a n : ℕ) → filter t (range_with_len a n) ≡ [] → ((k : ℕ) → a ≤ k → k < a + n → t k ≡ false → u k ≡ true) → list_all u (range_with_len a n) ≡ true
none_pass t u a zero none each = refl
none_pass t u a (suc n) none each = by (t a) refl none (λ e. none_pass t u (a + 1) n e (λ k le less idle. each k (omega (arith, le)) (omega (arith, less)) idle))
  where
    by : (b : Bool) → t a ≡ b → cond b (a ∷ filter t (range_with_len (a + 1) n)) (filter t (range_with_len (a + 1) n)) ≡ []
        → (filter t (range_with_len (a + 1) n) ≡ [] → list_all u (range_with_len (a + 1) n) ≡ true) → list_all u (range_with_len a (suc n)) ≡ true
    by true is e more = cc
    by false is e more = and_both (u a) _ (each a (omega arith) (omega arith) is) (more e)

module _ {B : Type 0} (j : Job B) (runs : is_running j ≡ true) (ended : j.ended ≡ true) where
  abbrev ready_in : ℕ × Phase → List Task
  ready_in p = map (task_of j p.0) (filter (is_ready j p.0) (range_with_len 0 (task_count p.1.kind (feed j p.0))))

  begins : (n : ℕ) (kind : PhaseKind) → complete_before j n ≡ true → may_begin j n kind ≡ true
  begins n Map all = refl
  begins n (Reduce count) all = and_both j.ended _ ended all

  -- a place that is not ready is committed, where each phase before is complete
  committed_at : (n : ℕ) (p : Phase) → slice_get j.document.phases n ≡ Some p → complete_before j n ≡ true → (k : ℕ) → k < task_count p.kind (feed j n) → is_ready j n k ≡ false → is_committed j.trace n k ≡ true
  committed_at n p at all k less idle =
      let of_phase : is_task_of j n k (Some p) ≡ true = and_both (may_begin j n p.kind) _ (begins n p.kind all) (lt-ltb k (task_count p.kind (feed j n)) less) in
      let task : is_task j n k ≡ true = ap (is_task_of j n k) at ∙ of_phase in
      let may : may_run j n k ≡ true = and_both (is_running j) _ runs task in
      not_false (is_committed j.trace n k) (sym (ap (λ b. b && not (is_committed j.trace n k)) may) ∙ idle)

  phase_complete : (n : ℕ) (p : Phase) → slice_get j.document.phases n ≡ Some p → complete_before j n ≡ true → ready_in (n, p) ≡ [] → is_complete j (n, p) ≡ true
  phase_complete n p at all none =
      none_pass (is_ready j n) (is_committed j.trace n) 0 (task_count p.kind (feed j n)) (empty_map (task_of j n) (filter (is_ready j n) (range_with_len 0 (task_count p.kind (feed j n)))) none)
      (λ k le less idle. committed_at n p at all k (omega (arith, less)) idle)

  -- so each phase is, one after another
  none_ready : (xs : List (ℕ × Phase)) (n : ℕ) (x : ℕ × Phase) → flat_map ready_in xs ≡ [] → slice_get xs n ≡ Some x → ready_in x ≡ []
  none_ready [] n x none at = cc
  none_ready (y ∷ ys) zero x none at = subst (λ z. ready_in z ≡ []) (same_Some y x at) (empty_front (ready_in y) (flat_map ready_in ys) (sym (flat_map-cons ready_in y ys) ∙ none))
  none_ready (y ∷ ys) (suc n) x none at = none_ready ys n x (empty_rest (ready_in y) (flat_map ready_in ys) (sym (flat_map-cons ready_in y ys) ∙ none)) at

  complete_at : (n : ℕ) (x : ℕ × Phase) → flat_map ready_in (phases_of j) ≡ [] → complete_before j n ≡ true → slice_get (phases_of j) n ≡ Some x → (o : Option Phase) → slice_get j.document.phases n ≡ o → is_complete j x ≡ true
  complete_at n x none all at (Some p) is =
      let first : 0 + n ≡ n = omega arith in
      let there : slice_get (phases_of j) n ≡ Some (n, p) = enumerated 0 n j.document.phases p is ∙ ap (λ m. Some (m, p)) first in
      let same : (n, p) ≡ x = same_Some (n, p) x (sym there ∙ at) in
      subst (λ z. is_complete j z ≡ true) same (phase_complete n p is all (none_ready (phases_of j) n (n, p) none there))
  complete_at n x none all at None is = absurd (never 0 n j.document.phases is at)
    where
      never : (a n : ℕ) (ps : List Phase) → slice_get ps n ≡ None → slice_get (enumerate_from a ps) n ≡ Some x → ⊥
      never a n [] is at = cc
      never a zero (p ∷ ps) is at = cc
      never a (suc n) (p ∷ ps) is at = never (a + 1) n ps is at

  up_to : flat_map ready_in (phases_of j) ≡ [] → (n : ℕ) → complete_before j n ≡ true
  up_to none zero = refl
  up_to none (suc n) = longer (is_complete j) n (phases_of j) (up_to none n) (λ x at. complete_at n x none (up_to none n) at (slice_get j.document.phases n) refl)

  all_of : flat_map ready_in (phases_of j) ≡ [] → all_complete j ≡ true
  all_of none = ap (list_all (is_complete j)) (sym (take_all (length (phases_of j)) (phases_of j) (omega arith))) ∙ up_to none (length (phases_of j))

pub ended_goes_on : {B : Type 0} → EndedGoesOn B
ended_goes_on j runs ended none = and_both (is_running j && j.ended) _ (and_both (is_running j) _ runs ended) (all_of j runs ended none)
