-- No text looks at bodies.
use Rattle.std.proofs.Common.{◌≡◌, ℕ, List, [], ◌∷◌, ◌++◌, map, length, Option, Some, None, refl, ap, ◌∙◌}
use Rattle.std.specs.List.{cons_option, filter_map, flat_map, slice_get}
use Rattle.std.specs.Option.{option_and_then, option_map}
use Rattle.serde_json.specs.Data.{Data}
use Rattle.mt_path.specs.AccountPath.{path_text}
use Rattle.mt_types.specs.Values.{item_with, job_with, outcome_with, trace_entry_with}
use Rattle.mt_types.specs.declared.document.Phase.{Phase}
use Rattle.mt_types.specs.declared.document.PhaseKind.{PhaseKind}
use Rattle.mt_types.specs.declared.document.PhaseKind.TheVariants.{Map, Reduce}
use Rattle.mt_types.specs.declared.job.Item.{Item}
use Rattle.mt_types.specs.declared.job.Job.{Job}
use Rattle.mt_types.specs.declared.job.Outcome.{Outcome}
use Rattle.mt_types.specs.declared.job.Outcome.TheVariants.{Good, Bad}
use Rattle.mt_types.specs.declared.job.TraceEntry.{TraceEntry}
use Rattle.mt_model.specs.Feed.{feed, items_of}
use Rattle.mt_model.specs.Finished.{names_out, outputs_of}
use Rattle.mt_model.specs.Tasks.{object_read}
use Rattle.mt_model.proofs.Maps.{length-map, slice_get-map}
use Rattle.mt_model.proofs.TasksWith.{feed-with}
use Rattle.mt_jobtext.specs.JobTexts.{error_where_bad, errors_of, failed_error, failed_name, line, lined, line_count, live_status, missing_error, name_where_bad, names_failed, names_in, names_missing, object_of_task, outcome_word, reducer_of_task, status_data, stats_data, task_data, text_of, texts_of}
use Rattle.mt_jobtext.specs.Laws.{ArchivesOfNoBody, TextsOfNoBody}
use Rattle.mt_types.specs.declared.live.LiveText.{LiveText}
use Rattle.mt_types.specs.declared.live.LiveText.TheVariants as live

map_over : {X Y Z : Type 0} (g : Y → Z) (t : X → Y) (h : X → Z) → ((x : X) → g (t x) ≡ h x) → (xs : List X) → map g (map t xs) ≡ map h xs
map_over g t h same [] = refl
map_over g t h same (x ∷ xs) = λ k. same x k ∷ map_over g t h same xs k

some_over : {X Y Z : Type 0} (g : Y → Option Z) (t : X → Y) (h : X → Option Z) → ((x : X) → g (t x) ≡ h x) → (xs : List X) → filter_map g (map t xs) ≡ filter_map h xs
some_over g t h same [] = refl
some_over g t h same (x ∷ xs) = λ k. cons_option (same x k) (some_over g t h same xs k)

module _ {A B : Type 0} (f : A → B) where
  name_same : (login : List ℕ) (o : Option (Item A)) → option_map (λ i. path_text login i.name) (option_map (item_with f) o) ≡ option_map (λ i. path_text login i.name) o
  name_same login None = refl
  name_same login (Some i) = refl

  read_same : (login : List ℕ) (kind : PhaseKind) (items : List (Item A)) (place : ℕ) → object_read login kind (map (item_with f) items) place ≡ object_read login kind items place
  read_same login Map items place = ap (option_map (λ i. path_text login i.name)) (slice_get-map (item_with f) items place) ∙ name_same login (slice_get items place)
  read_same login (Reduce count) items place = refl

  task_same : (login : List ℕ) (j : Job A) (phase place : ℕ) → object_of_task login (job_with f j) phase place ≡ object_of_task login j phase place
  task_same login j phase place = found (slice_get j.document.phases phase)
    where
      found : (o : Option Phase) → option_and_then (λ p. object_read login p.kind (feed (job_with f j) phase) place) o ≡ option_and_then (λ p. object_read login p.kind (feed j phase) place) o
      found None = refl
      found (Some p) = ap (λ items. object_read login p.kind items place) (feed-with f j phase) ∙ read_same login p.kind (feed j phase) place

  bad_name : (name : Option (List ℕ)) (o : Outcome A) → name_where_bad name (outcome_with f o) ≡ name_where_bad name o
  bad_name name (Good items) = refl
  bad_name name (Bad failure status stderr) = refl

  bad_error : (input : Option (List ℕ)) (reducer : Option ℕ) (phase : ℕ) (o : Outcome A) → error_where_bad input reducer phase (outcome_with f o) ≡ error_where_bad input reducer phase o
  bad_error input reducer phase (Good items) = refl
  bad_error input reducer phase (Bad failure status stderr) = refl

  names_same : (login : List ℕ) (j : Job A) → names_failed login (job_with f j) ≡ names_failed login j
  names_same login j =
      ap (λ (names : List (List ℕ)). names_missing login j ++ names)
      (some_over (failed_name login (job_with f j)) (trace_entry_with f) (failed_name login j)
      (λ e. ap (λ name. name_where_bad name (outcome_with f e.outcome)) (task_same login j e.phase e.place) ∙ bad_name (object_of_task login j e.phase e.place) e.outcome) j.trace)

  errors_same : (login : List ℕ) (j : Job A) → errors_of login (job_with f j) ≡ errors_of login j
  errors_same login j =
      ap (λ (errors : List Data). map missing_error (names_missing login j) ++ errors)
      (some_over (failed_error login (job_with f j)) (trace_entry_with f) (failed_error login j)
      (λ e. ap (λ name. error_where_bad name (reducer_of_task j e.phase e.place) e.phase (outcome_with f e.outcome)) (task_same login j e.phase e.place)
      ∙ bad_error (object_of_task login j e.phase e.place) (reducer_of_task j e.phase e.place) e.phase e.outcome) j.trace)

  in_same : (login : List ℕ) (j : Job A) → names_in login (job_with f j) ≡ names_in login j
  in_same login j = map_over (λ i. path_text login i.name) (item_with f) (λ i. path_text login i.name) (λ i. refl) j.inputs

  out_same : (login : List ℕ) (j : Job A) → names_out login (job_with f j) ≡ names_out login j
  out_same login j =
      ap (map (λ i. path_text login i.name)) (feed-with f j (length j.document.phases))
      ∙ map_over (λ i. path_text login i.name) (item_with f) (λ i. path_text login i.name) (λ i. refl) (outputs_of j)

  made_same : (o : Outcome A) → length (items_of (outcome_with f o)) ≡ length (items_of o)
  made_same (Good items) = length-map (item_with f) items
  made_same (Bad failure status stderr) = refl

  word_same : (o : Outcome A) → outcome_word (outcome_with f o) ≡ outcome_word o
  word_same (Good items) = refl
  word_same (Bad failure status stderr) = refl

  one_same : (e : TraceEntry A) → task_data (trace_entry_with f e) ≡ task_data e
  unfolding task_data
  one_same e = rw (made_same e.outcome, word_same e.outcome) refl

  tasks_same : (j : Job A) → map task_data (map (trace_entry_with f) j.trace) ≡ map task_data j.trace
  tasks_same j = map_over task_data (trace_entry_with f) task_data one_same j.trace

  stats_same : (login : List ℕ) (j : Job A) → stats_data login (job_with f j) ≡ stats_data login j
  unfolding stats_data
  stats_same login j =
      rw (ap length (errors_same login j), length-map (item_with f) j.inputs, ap length (feed-with f j (length j.document.phases)) ∙ length-map (item_with f) (outputs_of j), length-map (trace_entry_with f) j.trace) refl

  status_same : (login : List ℕ) (j : Job A) → live_status login (job_with f j) ≡ live_status login j
  unfolding status_data
  status_same login j = rw (stats_same login j) refl

  text_same : (login : List ℕ) (j : Job A) (text : LiveText) → text_of login (job_with f j) text ≡ text_of login j text
  text_same login j live.In = ap lined (in_same login j)
  text_same login j live.Out = ap (flat_map line) (out_same login j)
  text_same login j live.Fail = ap lined (names_same login j)
  text_same login j live.Err = ap (λ (ds : List Data). lined (texts_of ds)) (errors_same login j)
  text_same login j live.Tasks = ap (λ (ds : List Data). lined (texts_of ds)) (tasks_same j)
  text_same login j live.Status = status_same login j

  count_same : (login : List ℕ) (j : Job A) (text : LiveText) → line_count login (job_with f j) text ≡ line_count login j text
  count_same login j live.In = ap length (in_same login j)
  count_same login j live.Out = ap length (out_same login j)
  count_same login j live.Fail = ap length (names_same login j)
  count_same login j live.Err = ap length (errors_same login j)
  count_same login j live.Tasks = length-map (trace_entry_with f) j.trace
  count_same login j live.Status = refl

pub texts_same : TextsOfNoBody
texts_same read login job text = record { same = text_same read login job text; lines = count_same read login job text }

pub archives_same : ArchivesOfNoBody
archives_same read login job = λ k. record {
  err = text_same read login job live.Err k;
  fail = text_same read login job live.Fail k;
  input = text_same read login job live.In k;
  status = text_same read login job live.Status k;
  out = text_same read login job live.Out k;
}
