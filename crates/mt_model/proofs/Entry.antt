-- A job of which a task is committed stays sound.
use Rattle.std.proofs.Common.{◌≡◌, ℕ, ◌<◌, ◌≤◌, Bool, true, false, not, List, [], ◌∷◌, ◌++◌, length, map, Option, Some, None, refl, sym, ap, subst, arith, zero, suc, ◌⊎◌, inl, inr}
use Rattle.std.specs.Prelude.{take, All, is_some, IsSome}
use Rattle.std.specs.List.{slice_get}
use Rattle.std.specs.Option.{unwrap_or}
use Rattle.std.specs.List.Sorted.{IsStrictlySortedBy}
use Rattle.std.specs.Ordering.{nat_cmp}
use Rattle.std.proofs.lemmas.List.{take-append-le}
use Rattle.std.proofs.Math.Seq.{take-append_seam}
use Rattle.mt_types.specs.declared.job.Job.{Job}
use Rattle.mt_types.specs.declared.job.TraceEntry.{TraceEntry}
use Rattle.mt_model.specs.JobSteps.{commit_refusal, with_entry}
use Rattle.mt_model.specs.Sound.{Sound}
use Rattle.mt_model.specs.Tasks.{is_committed, is_running, is_task, may_run}
use Rattle.std.proofs.lemmas.Bool.{cases_lt}
use Rattle.std.proofs.lemmas.List.Elements.{All-nil, All-cons, All-head, All-tail}
use Rattle.mt_model.proofs.LawfulNewJob.{sorted_push}
use Rattle.mt_model.proofs.Maps.{map-append}
use Rattle.mt_model.proofs.LawfulInputs.{and_right}
use Rattle.mt_model.proofs.RowLaws.{neither, not_refused}

pub holds_if : (b : Bool) → not b ≡ false → b ≡ true
holds_if true e = refl
holds_if false e = cc

not_both : (o : Option ℕ) → not (is_some o) ≡ true → IsSome o → ⊥
not_both None e some = cc
not_both (Some x) e some = cc

module _ {B : Type 0} where
  pub last_case : (es : List (TraceEntry B)) (e d : TraceEntry B) (k : ℕ) → slice_get (es ++ e ∷ []) k ≡ Some d → (k < length es → slice_get es k ≡ Some d) × (length es ≤ k → (k ≡ length es) × (d ≡ e))
  last_case [] e d zero at = (λ less. absurd (omega arith), λ le. (refl, ap (λ o. unwrap_or o e) (sym at)))
  last_case [] e d (suc k) at = (λ less. absurd (omega arith), λ le. cc)
  last_case (x ∷ es) e d zero at = (λ less. at, λ le. absurd (omega arith))
  last_case (x ∷ es) e d (suc k) at =
      let more = last_case es e d k at in
      (λ less. more.0 (omega arith), λ le. let m = more.1 (omega arith) in (ap suc m.0, m.1))

  -- what holds of each entry, and of a new one, by their task_count
  each_place : (P : List (TraceEntry B) → TraceEntry B → Type 0) (es : List (TraceEntry B)) (e : TraceEntry B)
      → ((k : ℕ) (d : TraceEntry B) → slice_get es k ≡ Some d → P (take k es) d) → P es e
      → (k : ℕ) (d : TraceEntry B) → slice_get (es ++ e ∷ []) k ≡ Some d → P (take k (es ++ e ∷ [])) d
  each_place P es e each new k d at = by (cases_lt k (length es))
    where
      by : (k < length es) ⊎ (length es ≤ k) → P (take k (es ++ e ∷ [])) d
      by (inl less) = subst (λ t. P t d) (sym (take-append-le k es (e ∷ []) (omega arith))) (each k d ((last_case es e d k at).0 less))
      by (inr le) =
          let m = (last_case es e d k at).1 le in
          subst (λ x. P (take x (es ++ e ∷ [])) d) (sym m.0) (subst (λ t. P t d) (sym (take-append_seam es (e ∷ []))) (subst (λ x. P es x) (sym m.1) new))

  all_positions : (n : ℕ) (es : List (TraceEntry B)) → All (λ d. d.position < n) es → All (λ x. x < n) (map (λ d. d.position) es)
  all_positions n [] a = All-nil (λ x. x < n)
  all_positions n (e ∷ es) a = All-cons (λ x. x < n) e.position (map (λ d. d.position) es) (All-head (λ d. d.position < n) e es a) (all_positions n es (All-tail (λ d. d.position < n) e es a))

  pub sound_entry : (n : ℕ) (j : Job B) (e : TraceEntry B) → commit_refusal e.phase e.place j ≡ None → e.position ≡ n → All (λ d. d.position < n) j.trace → Sound j → Sound (with_entry e j)
  sound_entry n j e none at below s =
      let parts = neither _ _ none in
      let more = neither _ _ parts.1 in
      let runs : is_running j ≡ true = holds_if _ (not_refused _ _ parts.0) in
      let may : may_run j e.phase e.place ≡ true = holds_if _ (not_refused _ _ more.0) in
      let fresh : is_committed j.trace e.phase e.place ≡ false = not_refused _ _ more.1 in
      record {
        tasks = each_place (λ t d. is_task (record j { trace = t }) d.phase d.place ≡ true) j.trace e s.tasks (and_right (is_running j) _ may);
        once = each_place (λ t d. is_committed t d.phase d.place ≡ false) j.trace e s.once fresh;
        rising = subst (IsStrictlySortedBy nat_cmp) (sym (map-append (λ d. d.position) j.trace (e ∷ [])))
            (sorted_push (map (λ d. d.position) j.trace) e.position s.rising (subst (λ m. All (λ x. x < m) (map (λ d. d.position) j.trace)) (sym at) (all_positions n j.trace below)));
        finished = λ some. absurd (not_both j.done runs some);
        cancelled = s.cancelled;
      }
