-- Jobs over other bodies: the same feeds, shares and tasks.
use Rattle.std.proofs.Common.{◌≡◌, ℕ, ◌%◌, ◌==◌, not, ◌&&◌, nat_lt, List, [], ◌∷◌, ◌++◌, map, take, drop, Option, Some, None, refl, sym, ap, ◌∙◌, zero, suc}
use Rattle.std.specs.List.{enumerate_from, filter, flat_map, list_all, range_with_len, slice_get, zip}
use Rattle.std.specs.Option.{option_map, unwrap_or}
use Rattle.mt_path.specs.AccountPath.{path_text, slash}
use Rattle.mt_types.specs.Values.{item_with, job_with, outcome_with, trace_entry_with}
use Rattle.mt_types.specs.declared.document.Phase.{Phase}
use Rattle.mt_types.specs.declared.document.PhaseKind.{PhaseKind}
use Rattle.mt_types.specs.declared.document.PhaseKind.TheVariants.{Map, Reduce}
use Rattle.mt_types.specs.declared.job.Item.{Item}
use Rattle.mt_types.specs.declared.job.Job.{Job}
use Rattle.mt_types.specs.declared.job.Outcome.{Outcome}
use Rattle.mt_types.specs.declared.job.Outcome.TheVariants.{Good, Bad}
use Rattle.mt_types.specs.declared.job.TraceEntry.{TraceEntry}
use Rattle.mt_types.specs.declared.task.Asset.{Asset}
use Rattle.mt_types.specs.declared.task.Run.{Run}
use Rattle.mt_model.specs.Feed.{entries_of, feed, items_in, items_of}
use Rattle.mt_model.specs.Names.{job_stor, output_prefix}
use Rattle.mt_model.specs.Tasks.{all_complete, assets_of, input_of, is_committed, is_complete, is_ready, is_running, is_task, is_task_of, items_read, may_begin, may_run, object_read, phases_of, task_count, ready, reducer_at, reducer_of, root_at, run_in, run_of, share, task_of, waits_finish}
use Rattle.mt_model.proofs.Maps.{drop-map, enumerate-map, filter-map, flat_map-map, length-map, list_any-map, map-flat_map, map-map, same_function, slice_get-map, take-map, zip-map}
use Rattle.mt_model.proofs.Shares.{map_reads}

module _ {A B : Type 0} (f : A → B) where
  pub outcome_items : (o : Outcome A) → items_of (outcome_with f o) ≡ map (item_with f) (items_of o)
  outcome_items (Good items) = refl
  outcome_items (Bad failure status stderr) = refl

  pub items_in-with : (es : List (TraceEntry A)) → items_in (map (trace_entry_with f) es) ≡ map (item_with f) (items_in es)
  items_in-with es =
      flat_map-map (trace_entry_with f) (λ e. items_of e.outcome) es
      ∙ ap (λ h. flat_map h es) (same_function (λ e. items_of (outcome_with f e.outcome)) (λ e. map (item_with f) (items_of e.outcome)) (λ e. outcome_items e.outcome))
      ∙ sym (map-flat_map (item_with f) (λ e. items_of e.outcome) es)

  pub entries_of-with : (phase : ℕ) (es : List (TraceEntry A)) → entries_of phase (map (trace_entry_with f) es) ≡ map (trace_entry_with f) (entries_of phase es)
  entries_of-with phase es = filter-map (trace_entry_with f) (λ e. e.phase == phase) es

  -- each phase reads the same items
  pub feed-with : (j : Job A) (phase : ℕ) → feed (job_with f j) phase ≡ map (item_with f) (feed j phase)
  feed-with j zero = refl
  feed-with j (suc phase) = ap items_in (entries_of-with phase j.trace) ∙ items_in-with (entries_of phase j.trace)

  -- and each reducer the same share
  pub share-with : (items : List (Item A)) (count reducer : ℕ) → share (map (item_with f) items) count reducer ≡ map (item_with f) (share items count reducer)
  share-with items count reducer =
      let numbered : ℕ × Item A → ℕ × Item B = λ p. (p.0, item_with f p.1) in
      let mine : List (ℕ × Item A) = filter (λ p. reducer_of p % count == reducer) (enumerate_from 0 items) in
      ap (λ ps. map (λ p. p.1) (filter (λ p. reducer_of p % count == reducer) ps)) (enumerate-map (item_with f) 0 items)
      ∙ ap (map (λ p. p.1)) (filter-map numbered (λ p. reducer_of p % count == reducer) (enumerate_from 0 items))
      ∙ map-map (λ p. p.1) numbered mine
      ∙ sym (map-map (item_with f) (λ p. p.1) mine)

  pub task_count_cases : (kind : PhaseKind) (items : List (Item A)) → task_count kind (map (item_with f) items) ≡ task_count kind items
  task_count_cases Map items = length-map (item_with f) items
  task_count_cases (Reduce count) items = refl

  pub task_count-with : (kind : PhaseKind) (j : Job A) (phase : ℕ) → task_count kind (feed (job_with f j) phase) ≡ task_count kind (feed j phase)
  task_count-with kind j phase = ap (task_count kind) (feed-with j phase) ∙ task_count_cases kind (feed j phase)

  pub is_committed-with : (es : List (TraceEntry A)) (phase place : ℕ) → is_committed (map (trace_entry_with f) es) phase place ≡ is_committed es phase place
  is_committed-with es phase place = list_any-map (trace_entry_with f) (λ e. (e.phase == phase) && (e.place == place)) es

  is_complete-with : (j : Job A) (p : ℕ × Phase) → is_complete (job_with f j) p ≡ is_complete j p
  is_complete-with j p =
      ap (λ t. list_all t (range_with_len 0 (task_count p.1.kind (feed (job_with f j) p.0)))) (same_function (is_committed (map (trace_entry_with f) j.trace) p.0) (is_committed j.trace p.0) (is_committed-with j.trace p.0))
      ∙ ap (λ n. list_all (is_committed j.trace p.0) (range_with_len 0 n)) (task_count-with p.1.kind j p.0)

  complete_one : (j : Job A) → is_complete (job_with f j) ≡ is_complete j
  complete_one j = same_function (is_complete (job_with f j)) (is_complete j) (is_complete-with j)

  pub all_complete-with : (j : Job A) → all_complete (job_with f j) ≡ all_complete j
  all_complete-with j = ap (λ t. list_all t (phases_of j)) (complete_one j)

  may_begin-with : (j : Job A) (phase : ℕ) (kind : PhaseKind) → may_begin (job_with f j) phase kind ≡ may_begin j phase kind
  may_begin-with j phase Map = refl
  may_begin-with j phase (Reduce count) = ap (λ t. j.ended && list_all t (take phase (phases_of j))) (complete_one j)

  task_cases : (j : Job A) (phase place : ℕ) (o : Option Phase) → is_task_of (job_with f j) phase place o ≡ is_task_of j phase place o
  task_cases j phase place None = refl
  task_cases j phase place (Some p) =
      ap (λ b. b && nat_lt place (task_count p.kind (feed (job_with f j) phase))) (may_begin-with j phase p.kind)
      ∙ ap (λ n. may_begin j phase p.kind && nat_lt place n) (task_count-with p.kind j phase)

  pub is_task-with : (j : Job A) (phase place : ℕ) → is_task (job_with f j) phase place ≡ is_task j phase place
  is_task-with j phase place = task_cases j phase place (slice_get j.document.phases phase)

  pub may_run-with : (j : Job A) (phase place : ℕ) → may_run (job_with f j) phase place ≡ may_run j phase place
  may_run-with j phase place = ap (λ b. is_running j && b) (is_task-with j phase place)

  pub is_ready-with : (j : Job A) (phase place : ℕ) → is_ready (job_with f j) phase place ≡ is_ready j phase place
  is_ready-with j phase place =
      ap (λ b. b && not (is_committed (map (trace_entry_with f) j.trace) phase place)) (may_run-with j phase place)
      ∙ ap (λ b. may_run j phase place && not b) (is_committed-with j.trace phase place)

  ready_in : (j : Job A) (p : ℕ × Phase) → map (task_of (job_with f j) p.0) (filter (is_ready (job_with f j) p.0) (range_with_len 0 (task_count p.1.kind (feed (job_with f j) p.0)))) ≡ map (task_of j p.0) (filter (is_ready j p.0) (range_with_len 0 (task_count p.1.kind (feed j p.0))))
  ready_in j p =
      ap (λ t. map (task_of j p.0) (filter t (range_with_len 0 (task_count p.1.kind (feed (job_with f j) p.0))))) (same_function (is_ready (job_with f j) p.0) (is_ready j p.0) (is_ready-with j p.0))
      ∙ ap (λ n. map (task_of j p.0) (filter (is_ready j p.0) (range_with_len 0 n))) (task_count-with p.1.kind j p.0)

  -- the same tasks are ready, in the same order
  pub ready-with : (j : Job A) → ready (job_with f j) ≡ ready j
  ready-with j = ap (λ h. flat_map h (phases_of j)) (same_function _ _ (ready_in j))

  pub waits_finish-with : (j : Job A) → waits_finish (job_with f j) ≡ waits_finish j
  waits_finish-with j = ap (λ b. is_running j && j.ended && b) (all_complete-with j)

  root_cases : (o : Option (Item A)) → unwrap_or (option_map (λ i. i.root) (option_map (item_with f) o)) [] ≡ unwrap_or (option_map (λ i. i.root) o) []
  root_cases None = refl
  root_cases (Some i) = refl

  pub root_at-with : (kind : PhaseKind) (items : List (Item A)) (place : ℕ) → root_at kind (map (item_with f) items) place ≡ root_at kind items place
  root_at-with Map items place = ap (λ o. unwrap_or (option_map (λ i. i.root) o) []) (slice_get-map (item_with f) items place) ∙ root_cases (slice_get items place)
  root_at-with (Reduce count) items place = refl

  name_cases : (login : List ℕ) (o : Option (Item A)) → option_map (λ i. path_text login i.name) (option_map (item_with f) o) ≡ option_map (λ i. path_text login i.name) o
  name_cases login None = refl
  name_cases login (Some i) = refl

  object_read-with : (login : List ℕ) (kind : PhaseKind) (items : List (Item A)) (place : ℕ) → object_read login kind (map (item_with f) items) place ≡ object_read login kind items place
  object_read-with login Map items place = ap (option_map (λ i. path_text login i.name)) (slice_get-map (item_with f) items place) ∙ name_cases login (slice_get items place)
  object_read-with login (Reduce count) items place = refl

  module _ (content : B → List ℕ) where
    assets-with : (login : List ℕ) (p : Phase) (bodies : List A) → assets_of content login p (map f bodies) ≡ assets_of (λ a. content (f a)) login p bodies
    assets-with login p bodies =
        ap (map (λ a. record { name = path_text login a.0; bytes = content a.1 })) (zip-map f p.assets bodies)
        ∙ map-map (λ a. record { name = path_text login a.0; bytes = content a.1 }) (λ a. (a.0, f a.1)) (zip p.assets bodies)

    bodies_cases : (o : Option (List A)) → unwrap_or (option_map (map f) o) [] ≡ map f (unwrap_or o [])
    bodies_cases None = refl
    bodies_cases (Some bodies) = refl

    -- a run, by its parts
    abbrev run_by : List ℕ → Job A → ℕ → ℕ → Phase → List ℕ → Option (List ℕ) → List Asset → Run
    run_by login j phase place p root object assets = record {
      job = j.number;
      phase = phase;
      exec = p.exec;
      init = p.init;
      base = path_text login (job_stor j.number) ++ slash ∷ output_prefix root phase;
      object = object;
      reducer = reducer_at p.kind place;
      assets = assets;
    }

    run_in-with : (login : List ℕ) (j : Job A) (phase place : ℕ) (p : Phase) → run_in content login (job_with f j) phase place p ≡ run_in (λ a. content (f a)) login j phase place p
    run_in-with login j phase place p =
        let items : List (Item A) = feed j phase in
        let new : List (Item B) = feed (job_with f j) phase in
        ap (λ is. run_by login j phase place p (root_at p.kind is place) (object_read login p.kind is place) (assets_of content login p (unwrap_or (slice_get (map (map f) j.assets) phase) []))) (feed-with j phase)
        ∙ ap (λ r. run_by login j phase place p r (object_read login p.kind (map (item_with f) items) place) (assets_of content login p (unwrap_or (slice_get (map (map f) j.assets) phase) []))) (root_at-with p.kind items place)
        ∙ ap (λ o. run_by login j phase place p (root_at p.kind items place) o (assets_of content login p (unwrap_or (slice_get (map (map f) j.assets) phase) []))) (object_read-with login p.kind items place)
        ∙ ap (λ o. run_by login j phase place p (root_at p.kind items place) (object_read login p.kind items place) (assets_of content login p (unwrap_or o []))) (slice_get-map (map f) j.assets phase)
        ∙ ap (λ bs. run_by login j phase place p (root_at p.kind items place) (object_read login p.kind items place) (assets_of content login p bs)) (bodies_cases (slice_get j.assets phase))
        ∙ ap (run_by login j phase place p (root_at p.kind items place) (object_read login p.kind items place)) (assets-with login p (unwrap_or (slice_get j.assets phase) []))

    -- a task is run with the same
    pub run_of-with : (login : List ℕ) (j : Job A) (phase place : ℕ) → run_of content login (job_with f j) phase place ≡ run_of (λ a. content (f a)) login j phase place
    run_of-with login j phase place = ap (λ h. option_map h (slice_get j.document.phases phase)) (same_function _ _ (run_in-with login j phase place))

    read_cases : (kind : PhaseKind) (items : List (Item A)) (place : ℕ) → items_read kind (map (item_with f) items) place ≡ map (item_with f) (items_read kind items place)
    read_cases Map items place =
        map_reads (map (item_with f) items) place
        ∙ ap (take 1) (drop-map (item_with f) place items)
        ∙ take-map (item_with f) 1 (drop place items)
        ∙ ap (map (item_with f)) (sym (map_reads items place))
    read_cases (Reduce count) items place = share-with items count place

    -- and reads the same
    pub input_of-with : (kind : PhaseKind) (items : List (Item A)) (place : ℕ) → input_of content kind (map (item_with f) items) place ≡ input_of (λ a. content (f a)) kind items place
    input_of-with kind items place =
        ap (flat_map (λ i. content i.body)) (read_cases kind items place)
        ∙ flat_map-map (item_with f) (λ i. content i.body) (items_read kind items place)
