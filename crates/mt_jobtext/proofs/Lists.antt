-- Lists by their first element, and numbers of lines.
use Rattle.std.proofs.Common.{◌≡◌, ℕ, ◌+◌, ◌<◌, Bool, cond, List, [], ◌∷◌, map, length, get_or, drop, Option, Some, None, option_map, refl, sym, ap, ◌∙◌, arith, add-one, length-append}
use Rattle.std.specs.Prelude.{count_by, is_some}
use Rattle.std.specs.List.{cons_option, filter_map, slice_get}
use Rattle.std.specs.Option.{option_and_then}
use Rattle.std.proofs.Math.Seq.{drop-cons}
use Rattle.std.proofs.lemmas.List.Sums.{sum_by-cons}
use Rattle.mt_path.specs.AccountPath.{AccountPath, path_text}
use Rattle.mt_types.specs.declared.document.Phase.{Phase}
use Rattle.mt_types.specs.declared.document.PhaseKind.{PhaseKind}
use Rattle.mt_types.specs.declared.document.PhaseKind.TheVariants.{Map, Reduce}
use Rattle.mt_types.specs.declared.job.Item.{Item}
use Rattle.mt_types.specs.declared.job.Job.{Job}
use Rattle.mt_types.specs.declared.job.Outcome.{Outcome}
use Rattle.mt_types.specs.declared.job.Outcome.TheVariants.{Good, Bad}
use Rattle.mt_types.specs.declared.job.TraceEntry.{TraceEntry}
use Rattle.mt_model.specs.Feed.{feed}
use Rattle.mt_model.specs.Tasks.{object_read}
use Rattle.mt_model.proofs.Maps.{length-map}
use Rattle.mt_jobtext.specs.JobTexts.{error_where_bad, errors_of, failed_error, failed_name, missing_error, name_where_bad, names_failed, names_missing, object_of_task, posted_text}
use Rattle.mt_jobtext.specs.Pieces.{failed_path, is_bad, is_bad_outcome, path_of_task, path_read, path_where_bad}

-- the rest of a list from one element on
pub drop_next : {X : Type 0} (xs : List X) (k : ℕ) (d : X) → k < length xs → drop k xs ≡ get_or xs k d ∷ drop (k + 1) xs
drop_next xs k d within = drop-cons xs k d within ∙ rw add-one refl

one_more : {Y : Type 0} (o : Option Y) (ys : List Y) → length (cons_option o ys) ≡ cond (is_some o) 1 0 + length ys
one_more None ys = omega arith
one_more (Some y) ys = omega arith

-- how many are kept
count_some : {X Y : Type 0} (h : X → Option Y) (t : X → Bool) → ((x : X) → is_some (h x) ≡ t x) → (xs : List X) → length (filter_map h xs) ≡ count_by t xs
count_some h t same [] = refl
count_some h t same (x ∷ xs) =
    one_more (h x) (filter_map h xs) ∙ (λ k. cond (same x k) 1 0 + count_some h t same xs k) ∙ sym (sum_by-cons (λ y. cond (t y) 1 0) x xs)

some_text : (login : List ℕ) (o : Option AccountPath) → is_some (option_map (path_text login) o) ≡ is_some o
some_text login None = refl
some_text login (Some p) = refl

module _ {B : Type 0} where
  bad_error : (input : Option (List ℕ)) (reducer : Option ℕ) (phase : ℕ) (o : Outcome B) → is_some (error_where_bad input reducer phase o) ≡ is_bad_outcome o
  bad_error input reducer phase (Good items) = refl
  bad_error input reducer phase (Bad failure status stderr) = refl

  -- a line for each failed task
  pub errors_counted : (login : List ℕ) (job : Job B) → length (filter_map (failed_error login job) job.trace) ≡ count_by is_bad job.trace
  errors_counted login job = count_some (failed_error login job) is_bad (λ e. bad_error _ _ _ e.outcome) job.trace

  -- ---- the object that a task read, by its path

  read_text : (login : List ℕ) (kind : PhaseKind) (items : List (Item B)) (place : ℕ) → object_read login kind items place ≡ option_map (path_text login) (path_read kind items place)
  read_text login Map items place = named (slice_get items place)
    where
      named : (o : Option (Item B)) → option_map (λ i. path_text login i.name) o ≡ option_map (path_text login) (option_map (λ i. i.name) o)
      named None = refl
      named (Some i) = refl
  read_text login (Reduce count) items place = refl

  pub object_text : (login : List ℕ) (job : Job B) (phase place : ℕ) → object_of_task login job phase place ≡ option_map (path_text login) (path_of_task job phase place)
  object_text login job phase place = found (slice_get job.document.phases phase)
    where
      found : (o : Option Phase) → option_and_then (λ p. object_read login p.kind (feed job phase) place) o
          ≡ option_map (path_text login) (option_and_then (λ p. path_read p.kind (feed job phase) place) o)
      found None = refl
      found (Some p) = read_text login p.kind (feed job phase) place

  name_text : (login : List ℕ) (path : Option AccountPath) (o : Outcome B) → name_where_bad (option_map (path_text login) path) o ≡ option_map (path_text login) (path_where_bad path o)
  name_text login path (Good items) = refl
  name_text login path (Bad failure status stderr) = refl

  pub failed_text : (login : List ℕ) (job : Job B) (e : TraceEntry B) → failed_name login job e ≡ option_map (path_text login) (failed_path job e)
  failed_text login job e = ap (λ name. name_where_bad name e.outcome) (object_text login job e.phase e.place) ∙ name_text login (path_of_task job e.phase e.place) e.outcome

  -- a line for each failed map task
  pub names_counted : (login : List ℕ) (job : Job B) → length (filter_map (failed_name login job) job.trace) ≡ count_by (λ e. is_some (failed_path job e)) job.trace
  names_counted login job =
      count_some (failed_name login job) (λ e. is_some (failed_path job e)) (λ e. ap is_some (failed_text login job e) ∙ some_text login (failed_path job e)) job.trace

  -- how many lines tell of what went wrong
  pub errors_total : (login : List ℕ) (job : Job B) → length (errors_of login job) ≡ length job.missing + count_by is_bad job.trace
  errors_total login job =
      length-append (map missing_error (names_missing login job)) (filter_map (failed_error login job) job.trace)
      ∙ (λ k. (length-map missing_error (names_missing login job) ∙ length-map (posted_text login) job.missing) k + errors_counted login job k)

  -- and how many names
  pub names_total : (login : List ℕ) (job : Job B) → length (names_failed login job) ≡ length job.missing + count_by (λ e. is_some (failed_path job e)) job.trace
  names_total login job =
      length-append (names_missing login job) (filter_map (failed_name login job) job.trace)
      ∙ (λ k. length-map (posted_text login) job.missing k + names_counted login job k)
