-- A job is sound, and complete, whatever its bodies are.
use Rattle.std.proofs.Common.{◌≡◌, ℕ, true, false, List, [], ◌∷◌, map, Option, Some, None, refl, sym, ap, subst, ◌∙◌}
use Rattle.std.specs.Prelude.{take}
use Rattle.std.specs.List.{slice_get}
use Rattle.std.specs.List.Sorted.{IsStrictlySortedBy}
use Rattle.std.specs.Ordering.{nat_cmp}
use Rattle.std.specs.Option.{option_map}
use Rattle.std.proofs.lemmas.List.{take-map}
use Rattle.std.proofs.lemmas.Option.{slice_get-map}
use Rattle.mt_types.specs.Values.{job_with, trace_entry_with}
use Rattle.mt_model.specs.Types.{Job, TraceEntry}
use Rattle.mt_model.specs.Sound.{Sound, before}
use Rattle.mt_model.specs.Tasks.{is_committed, is_task}
use Rattle.mt_model.proofs.TasksWith.{all_complete-with, is_committed-with, is_task-with}

module _ {A B : Type 0} (f : A → B) where
  found_with : (o : Option (TraceEntry A)) (e : TraceEntry B) → option_map (trace_entry_with f) o ≡ Some e → (d : TraceEntry A) × (o ≡ Some d) × (trace_entry_with f d ≡ e)
  found_with None e at = cc
  found_with (Some d) e at = (d, refl, let same : trace_entry_with f d ≡ e = cc in same)

  entry_with : (es : List (TraceEntry A)) (k : ℕ) (e : TraceEntry B) → slice_get (map (trace_entry_with f) es) k ≡ Some e → (d : TraceEntry A) × (slice_get es k ≡ Some d) × (trace_entry_with f d ≡ e)
  entry_with es k e at = found_with (slice_get es k) e (sym (slice_get-map (trace_entry_with f) es k) ∙ at)

  positions_with : (es : List (TraceEntry A)) → map (λ e. e.position) (map (trace_entry_with f) es) ≡ map (λ e. e.position) es
  positions_with [] = refl
  positions_with (e ∷ es) = ap (λ l. e.position ∷ l) (positions_with es)

  module _ (job : Job A) (s : Sound job) where
    task_with : (k : ℕ) (e : TraceEntry B) → slice_get (job_with f job).trace k ≡ Some e → is_task (before (job_with f job) k) e.phase e.place ≡ true
    task_with k e at =
        let d = entry_with job.trace k e at in
        let was : is_task (before job k) d.0.phase d.0.place ≡ true = s.tasks k d.0 d.1 in
        let kept : is_task (job_with f (before job k)) d.0.phase d.0.place ≡ true = is_task-with f (before job k) d.0.phase d.0.place ∙ was in
        let front : take k (map (trace_entry_with f) job.trace) ≡ map (trace_entry_with f) (take k job.trace) = take-map (trace_entry_with f) k job.trace in
        let here : is_task (before (job_with f job) k) d.0.phase d.0.place ≡ true = ap (λ es. is_task (record (job_with f job) { trace = es }) d.0.phase d.0.place) front ∙ kept in
        subst (λ (x : TraceEntry B). is_task (before (job_with f job) k) x.phase x.place ≡ true) d.2 here

    once_with : (k : ℕ) (e : TraceEntry B) → slice_get (job_with f job).trace k ≡ Some e → is_committed (take k (job_with f job).trace) e.phase e.place ≡ false
    once_with k e at =
        let d = entry_with job.trace k e at in
        let front : take k (map (trace_entry_with f) job.trace) ≡ map (trace_entry_with f) (take k job.trace) = take-map (trace_entry_with f) k job.trace in
        let here : is_committed (take k (map (trace_entry_with f) job.trace)) d.0.phase d.0.place ≡ false =
        ap (λ es. is_committed es d.0.phase d.0.place) front ∙ (is_committed-with f (take k job.trace) d.0.phase d.0.place ∙ s.once k d.0 d.1) in
        subst (λ (x : TraceEntry B). is_committed (take k (map (trace_entry_with f) job.trace)) x.phase x.place ≡ false) d.2 here

    pub sound_with : Sound (job_with f job)
    sound_with = record {
      tasks = task_with;
      once = once_with;
      rising = subst (IsStrictlySortedBy nat_cmp) (sym (positions_with job.trace)) s.rising;
      finished = λ done kept. let was = s.finished done kept in (was.0, all_complete-with f job ∙ was.1);
      cancelled = s.cancelled;
    }
