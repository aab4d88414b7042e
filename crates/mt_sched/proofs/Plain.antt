-- The plan of a job says what its plain lists of tasks do.
use Rattle.std.proofs.Common.{◌≡◌, ℕ, ◌==◌, nat_lt, Bool, true, false, not, cond, ◌&&◌, List, [], ◌∷◌, ◌++◌, map, take, Option, Some, None, refl, sym, ap, ◌∙◌, arith}
use Rattle.std.specs.List.{filter, find, flat_map, list_all, list_any, range_with_len, slice_get}
use Rattle.std.specs.Option.{option_map}
use Rattle.std.proofs.lemmas.Bool.{lt-ltb}
use Rattle.std.proofs.lemmas.List.Elements.{filter_agree}
use Rattle.mt_types.specs.declared.document.Phase.{Phase}
use Rattle.mt_types.specs.declared.document.PhaseKind.{PhaseKind}
use Rattle.mt_types.specs.declared.document.PhaseKind.TheVariants.{Map, Reduce}
use Rattle.mt_types.specs.declared.job.Job.{Job}
use Rattle.mt_types.specs.declared.job.Task.{Task}
use Rattle.mt_model.specs.Feed.{feed}
use Rattle.mt_model.specs.Tasks.{all_complete, is_committed, is_complete, is_ready, is_running, is_task, is_task_of, may_begin, phases_of, ready, task_count, task_of, waits_finish}
use Rattle.mt_model.proofs.LawfulInputs.{and_right}
use Rattle.mt_model.proofs.Maps.{flat_map-map, list_all-map, same_function, take-map}
use Rattle.mt_sched.specs.Plan.{all_ready, first_waiting, is_committed_at, is_complete_phase, is_ready_at, is_task_at, may_begin_in, ready_of_phase, task_at, waits_in}
use Rattle.mt_sched.specs.PlanOfJob.{phase_plan, plan_of, places_of, plans_of, todo_of}
use Rattle.mt_sched.specs.Laws.{AllReadyIsPlain, CommittedIsPlain, CompleteIsPlain, FirstWaitingIsPlain, OneReadyIsPlain, ReadyIsPlain, TaskIsPlain, WaitsIsPlain}
use Rattle.mt_sched.proofs.Filters.{any_filter, any_range, filter_none, filter_range, flat_map_numbered, none_left, slice_get_numbered}

ready_case : (f : ℕ → Task) (b : Bool) (c : ℕ → Bool) (n : ℕ) → cond b (map f (filter (λ k. not (c k)) (range_with_len 0 n))) [] ≡ map f (filter (λ k. (b && nat_lt k n) && not (c k)) (range_with_len 0 n))
ready_case f true c n = ap (map f) (filter_range (λ k. not (c k)) (λ k. nat_lt k n && not (c k)) 0 n (λ k from to. sym (ap (λ b. b && not (c k)) (lt-ltb k n (omega arith)))))
ready_case f false c n = ap (map f) (sym (filter_none (range_with_len 0 n)))

one_case : (b l c : Bool) → (b && (l && not c)) ≡ ((b && l) && not c)
one_case true l c = refl
one_case false l c = refl

committed_case : (l c : Bool) → l ≡ true → (l && not (l && not c)) ≡ c
committed_case true true e = refl
committed_case true false e = refl
committed_case false c e = absurd cc

module _ {B : Type 0} where
  complete_one : (job : Job B) (p : ℕ × Phase) → is_complete_phase (phase_plan job p) ≡ is_complete job p
  complete_one job p = none_left (is_committed job.trace p.0) (range_with_len 0 (places_of job p))

  complete_all : (job : Job B) (ps : List (ℕ × Phase)) → list_all is_complete_phase (map (phase_plan job) ps) ≡ list_all (is_complete job) ps
  complete_all job ps = list_all-map (phase_plan job) is_complete_phase ps ∙ ap (λ t. list_all t ps) (same_function (λ p. is_complete_phase (phase_plan job p)) (is_complete job) (complete_one job))

  pub complete_plain : CompleteIsPlain B
  complete_plain job = complete_all job (phases_of job)

  pub begins_plain : (job : Job B) (phase : ℕ) (kind : PhaseKind) → may_begin_in (plan_of job) phase kind ≡ may_begin job phase kind
  begins_plain job phase Map = refl
  begins_plain job phase (Reduce count) =
      ap (λ b. job.ended && b) (ap (list_all is_complete_phase) (take-map (phase_plan job) phase (phases_of job)) ∙ complete_all job (take phase (phases_of job)))

  -- ---- the lists

  is_ready_where : (job : Job B) → is_running job ≡ true → (i : ℕ) (p : Phase) → slice_get job.document.phases i ≡ Some p → (k : ℕ)
      → is_ready job i k ≡ ((may_begin job i p.kind && nat_lt k (places_of job (i, p))) && not (is_committed job.trace i k))
  is_ready_where job runs i p at k =
      ap (λ r. (r && is_task_of job i k (slice_get job.document.phases i)) && not (is_committed job.trace i k)) runs
      ∙ ap (λ o. is_task_of job i k o && not (is_committed job.trace i k)) at

  ready_phase : (job : Job B) → is_running job ≡ true → (i : ℕ) (p : Phase) → slice_get job.document.phases i ≡ Some p
      → ready_of_phase job.number (plan_of job) (phase_plan job (i, p)) ≡ map (task_of job i) (filter (is_ready job i) (range_with_len 0 (places_of job (i, p))))
  ready_phase job runs i p at =
      ap (λ b. cond b (map (task_at job.number i) (todo_of job (i, p))) []) (begins_plain job i p.kind)
      ∙ ready_case (task_of job i) (may_begin job i p.kind) (is_committed job.trace i) (places_of job (i, p))
      ∙ ap (map (task_of job i)) (sym (filter_agree (is_ready job i) (λ k. (may_begin job i p.kind && nat_lt k (places_of job (i, p))) && not (is_committed job.trace i k)) (is_ready_where job runs i p at) (range_with_len 0 (places_of job (i, p)))))

  pub ready_plain : ReadyIsPlain B
  ready_plain job runs =
      flat_map-map (phase_plan job) (ready_of_phase job.number (plan_of job)) (phases_of job)
      ∙ flat_map_numbered (λ p. ready_of_phase job.number (plan_of job) (phase_plan job p))
      (λ p. map (task_of job p.0) (filter (is_ready job p.0) (range_with_len 0 (task_count p.1.kind (feed job p.0)))))
      job.document.phases (ready_phase job runs)

  pub waits_plain : WaitsIsPlain B
  waits_plain job runs = ap (λ b. job.ended && b) (complete_plain job) ∙ sym (ap (λ r. r && job.ended && all_complete job) runs)

  -- ---- one task

  phase_at : (job : Job B) (phase : ℕ) → slice_get (plan_of job).phases phase ≡ option_map (λ p. phase_plan job (phase, p)) (slice_get job.document.phases phase)
  phase_at job phase = slice_get_numbered (phase_plan job) job.document.phases phase

  task_case : (job : Job B) (phase place : ℕ) (o : Option Phase) → is_task_at (plan_of job) phase place (option_map (λ p. phase_plan job (phase, p)) o) ≡ is_task_of job phase place o
  task_case job phase place None = refl
  task_case job phase place (Some p) = ap (λ b. b && nat_lt place (places_of job (phase, p))) (begins_plain job phase p.kind)

  pub task_plain : TaskIsPlain B
  task_plain job phase place = ap (is_task_at (plan_of job) phase place) (phase_at job phase) ∙ task_case job phase place (slice_get job.document.phases phase)

  -- a place stands in what is not committed where it is one, and is not committed
  open_place : (job : Job B) (p : ℕ × Phase) (place : ℕ) → list_any (λ k. k == place) (todo_of job p) ≡ (nat_lt place (places_of job p) && not (is_committed job.trace p.0 place))
  open_place job p place =
      any_filter (λ k. not (is_committed job.trace p.0 k)) place (range_with_len 0 (places_of job p))
      ∙ ap (λ b. b && not (is_committed job.trace p.0 place)) (any_range (places_of job p) place)

  committed_where : (job : Job B) (phase place : ℕ) (o : Option Phase) → is_task_of job phase place o ≡ true
      → is_committed_at place (option_map (λ p. phase_plan job (phase, p)) o) ≡ is_committed job.trace phase place
  committed_where job phase place None task = absurd cc
  committed_where job phase place (Some p) task =
      ap (λ b. nat_lt place (places_of job (phase, p)) && not b) (open_place job (phase, p) place)
      ∙ committed_case (nat_lt place (places_of job (phase, p))) (is_committed job.trace phase place) (and_right (may_begin job phase p.kind) _ task)

  pub committed_plain : CommittedIsPlain B
  committed_plain job phase place task = ap (is_committed_at place) (phase_at job phase) ∙ committed_where job phase place (slice_get job.document.phases phase) task

  one_ready : (job : Job B) (phase place : ℕ) (o : Option Phase) → is_ready_at (plan_of job) phase place (option_map (λ p. phase_plan job (phase, p)) o) ≡ (is_task_of job phase place o && not (is_committed job.trace phase place))
  one_ready job phase place None = refl
  one_ready job phase place (Some p) =
      ap (λ b. b && list_any (λ k. k == place) (todo_of job (phase, p))) (begins_plain job phase p.kind)
      ∙ ap (λ b. may_begin job phase p.kind && b) (open_place job (phase, p) place)
      ∙ one_case (may_begin job phase p.kind) (nat_lt place (places_of job (phase, p))) (is_committed job.trace phase place)

  pub one_ready_plain : OneReadyIsPlain B
  one_ready_plain job runs phase place =
      ap (is_ready_at (plan_of job) phase place) (phase_at job phase)
      ∙ one_ready job phase place (slice_get job.document.phases phase)
      ∙ sym (ap (λ r. (r && is_task job phase place) && not (is_committed job.trace phase place)) runs)

  -- ---- all jobs

  none_ready : (job : Job B) → is_running job ≡ false → (ps : List (ℕ × Phase)) → flat_map (λ p. map (task_of job p.0) (filter (is_ready job p.0) (range_with_len 0 (task_count p.1.kind (feed job p.0))))) ps ≡ []
  none_ready job done [] = refl
  none_ready job done (p ∷ ps) =
      ap (λ l. map (task_of job p.0) l ++ flat_map (λ p. map (task_of job p.0) (filter (is_ready job p.0) (range_with_len 0 (task_count p.1.kind (feed job p.0))))) ps)
      (filter_agree (is_ready job p.0) (λ k. false) (λ k. ap (λ r. (r && is_task job p.0 k) && not (is_committed job.trace p.0 k)) done) (range_with_len 0 (task_count p.1.kind (feed job p.0)))
      ∙ filter_none (range_with_len 0 (task_count p.1.kind (feed job p.0))))
      ∙ none_ready job done ps

  ready_of : (job : Job B) (jobs : List (Job B)) (b : Bool) → is_running job ≡ b → all_ready (plans_of jobs) ≡ flat_map ready jobs
      → all_ready (map (λ j. (j.number, plan_of j)) (cond b (job ∷ filter is_running jobs) (filter is_running jobs))) ≡ ready job ++ flat_map ready jobs
  ready_of job jobs true runs more = ap (λ l. l ++ all_ready (plans_of jobs)) (ready_plain job runs) ∙ ap (λ l. ready job ++ l) more
  ready_of job jobs false done more = more ∙ ap (λ l. l ++ flat_map ready jobs) (sym (none_ready job done (phases_of job)))

  pub all_ready_plain : AllReadyIsPlain B
  all_ready_plain [] = refl
  all_ready_plain (job ∷ jobs) = ready_of job jobs (is_running job) refl (all_ready_plain jobs)

  waits_of : (job : Job B) (jobs : List (Job B)) (b : Bool) → is_running job ≡ b → first_waiting (plans_of jobs) ≡ option_map (λ j. j.number) (find waits_finish jobs)
      → first_waiting (map (λ j. (j.number, plan_of j)) (cond b (job ∷ filter is_running jobs) (filter is_running jobs))) ≡ option_map (λ j. j.number) (cond (waits_finish job) (Some job) (find waits_finish jobs))
  waits_of job jobs true runs more = by (waits_finish job) (waits_plain job runs)
    where
      by : (w : Bool) → waits_in (plan_of job) ≡ w → first_waiting ((job.number, plan_of job) ∷ plans_of jobs) ≡ option_map (λ j. j.number) (cond w (Some job) (find waits_finish jobs))
      by true e = ap (λ w. option_map (λ e. e.0) (cond w (Some (job.number, plan_of job)) (find (λ e. waits_in e.1) (plans_of jobs)))) e
      by false e = ap (λ w. option_map (λ e. e.0) (cond w (Some (job.number, plan_of job)) (find (λ e. waits_in e.1) (plans_of jobs)))) e ∙ more
  waits_of job jobs false done more = more ∙ ap (λ r. option_map (λ j. j.number) (cond (r && job.ended && all_complete job) (Some job) (find waits_finish jobs))) (sym done)

  pub first_waiting_plain : FirstWaitingIsPlain B
  first_waiting_plain [] = refl
  first_waiting_plain (job ∷ jobs) = waits_of job jobs (is_running job) refl (first_waiting_plain jobs)
