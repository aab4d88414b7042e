-- Fates over other bodies: what stands for a body decides nothing.
use Rattle.std.proofs.Common.{◌≡◌, ℕ, Bool, true, false, cond, ltb, List, [], ◌∷◌, ◌++◌, map, length, Option, Some, None, Result, Ok, Err, refl, sym, ap, ◌∙◌}
use Rattle.std.specs.Prelude.{◌||◌, option_map, option_and_then}
use Rattle.std.specs.List.{list_any}
use Rattle.std.specs.Option.{ok_or}
use Rattle.std.proofs.lemmas.List.{length-map, map-append}
use Rattle.mt_path.specs.AccountPath.{AccountPath}
use Rattle.mt_types.specs.Values.{fate_with, record_with as task_with}
use Rattle.mt_types.specs.declared.limits.TheConstants.{MOST_RECORDS}
use Rattle.mt_types.specs.declared.task.TaskFailure.{TaskFailure}
use Rattle.mt_types.specs.declared.task.TaskFailure.TheVariants.{TaskRecordError, TaskPlaceRefused, TaskObjectMissing}
use Rattle.mt_types.specs.declared.task.TaskRecord.{TaskRecord}
use Rattle.mt_types.specs.declared.task.TaskRecord.TheVariants as task
use Rattle.mt_spawn.specs.declared.task.Left.{Left}
use Rattle.mt_records.specs.declared.head.RecordHead.{RecordHead}
use Rattle.mt_records.specs.declared.head.RecordHead.TheVariants as head
use Rattle.mt_records.specs.declared.record.RawRecord.{RawRecord}
use Rattle.mt_records.specs.Fate.{all_records, and_then, asked, asked_by, fate_from, fate_unless, few_records, judged, makes_output, output_record, path_in, task_record, task_records, told_failure, with_output}
use Rattle.mt_records.specs.Windows.{Window, body_len, body_start, head_before, headed, record_of, record_with}

module _ {A B : Type 0} (f : A → B) where
  -- the same record over another body
  abbrev pub raw_with : RawRecord A → RawRecord B
  raw_with r = record { head = r.head; body = f r.body }

  abbrev result_with : Result (TaskRecord A) TaskFailure → Result (TaskRecord B) TaskFailure
  result_with (Ok t) = Ok (task_with f t)
  result_with (Err e) = Err e

  abbrev results_with : Result (List (TaskRecord A)) TaskFailure → Result (List (TaskRecord B)) TaskFailure
  results_with (Ok ts) = Ok (map (task_with f) ts)
  results_with (Err e) = Err e

  -- ---- windows

  mapped_record : (from n : ℕ) (body : ℕ → ℕ → A) (o : Option RecordHead)
      → option_map raw_with (option_map (headed (body from n)) o) ≡ option_map (headed (f (body from n))) o
  mapped_record from n body None = refl
  mapped_record from n body (Some h) = refl

  shown_with : (body : ℕ → ℕ → A) (w : Window) (o : Option ℕ)
      → option_map raw_with (option_and_then (record_of body w) o) ≡ option_and_then (record_of (λ from n. f (body from n)) w) o
  shown_with body w None = refl
  shown_with body w (Some n) = mapped_record (body_start w n) n body (head_before (body_start w n) n w.front)

  pub window_with : (body : ℕ → ℕ → A) (w : Window) → option_map raw_with (record_with body w) ≡ record_with (λ from n. f (body from n)) w
  unfolding record_with
  window_with body w = shown_with body w (body_len w.end w.len)

  -- ---- lists of records

  all_more : (r : Option (RawRecord A)) (rest : Option (List (RawRecord A)))
      → option_map (map raw_with) (option_and_then (λ x. option_map (λ xs. x ∷ xs) rest) r)
      ≡ option_and_then (λ x. option_map (λ xs. x ∷ xs) (option_map (map raw_with) rest)) (option_map raw_with r)
  all_more None rest = refl
  all_more (Some x) None = refl
  all_more (Some x) (Some xs) = refl

  pub all_with : (rs : List (Option (RawRecord A))) → option_map (map raw_with) (all_records rs) ≡ all_records (map (option_map raw_with) rs)
  unfolding all_records
  all_with [] = refl
  all_with (r ∷ rs) =
      all_more r (all_records rs)
      ∙ ap (λ (rest : Option (List (RawRecord B))). option_and_then (λ x. option_map (λ xs. x ∷ xs) rest) (option_map raw_with r)) (all_with rs)

  any_with : (rs : List (RawRecord A)) → list_any makes_output (map raw_with rs) ≡ list_any makes_output rs
  any_with [] = refl
  any_with (r ∷ rs) = ap (λ b. makes_output r || b) (any_with rs)

  mapped_cond : (b : Bool) (xs ys : List (RawRecord A)) → map raw_with (cond b xs ys) ≡ cond b (map raw_with xs) (map raw_with ys)
  mapped_cond true xs ys = refl
  mapped_cond false xs ys = refl

  output_with : (out : A) (rs : List (RawRecord A)) → map raw_with (with_output out rs) ≡ with_output (f out) (map raw_with rs)
  unfolding with_output
  output_with out rs =
      mapped_cond (list_any makes_output rs) rs (rs ++ output_record out ∷ [])
      ∙ (λ i. cond (sym (any_with rs) i) (map raw_with rs) (map-append raw_with rs (output_record out ∷ []) i))

  -- ---- what is asked for

  module _ (login : List ℕ) where
    named_with : (o : Option AccountPath) (make : AccountPath → TaskRecord A) (other : AccountPath → TaskRecord B) (e : TaskFailure)
        → ((p : AccountPath) → task_with f (make p) ≡ other p) → result_with (ok_or (option_map make o) e) ≡ ok_or (option_map other o) e
    named_with None make other e same = refl
    named_with (Some p) make other e same = ap (λ (t : TaskRecord B). Ok t) (same p)

    asked_with : (h : RecordHead) (body : A) → result_with (asked login h body) ≡ asked login h (f body)
    asked_with (head.Emit None reducer) body = refl
    asked_with (head.Emit (Some text) reducer) body =
        named_with (path_in login text) (λ p. task.Emit (Some p) reducer body) (λ p. task.Emit (Some p) reducer (f body)) TaskPlaceRefused (λ p. refl)
    asked_with (head.Keep text) body =
        named_with (path_in login text) (λ p. task.Keep p body) (λ p. task.Keep p (f body)) TaskPlaceRefused (λ p. refl)
    asked_with (head.Ref text) body =
        named_with (path_in login text) (λ p. task.Ref p) (λ p. task.Ref p) TaskObjectMissing (λ p. refl)

    tasks_more : (t : Result (TaskRecord A) TaskFailure) (rest : Result (List (TaskRecord A)) TaskFailure)
        → results_with (and_then t (λ x. and_then rest (λ xs. Ok (x ∷ xs)))) ≡ and_then (result_with t) (λ x. and_then (results_with rest) (λ xs. Ok (x ∷ xs)))
    tasks_more (Err e) rest = refl
    tasks_more (Ok x) (Err e) = refl
    tasks_more (Ok x) (Ok xs) = refl

    tasks_with : (rs : List (RawRecord A)) → results_with (task_records login rs) ≡ task_records login (map raw_with rs)
    tasks_with [] = refl
    tasks_with (r ∷ rs) =
        tasks_more (task_record login r) (task_records login rs)
        ∙ (λ i. and_then (asked_with r.head r.body i) (λ x. and_then (tasks_with rs i) (λ xs. Ok (x ∷ xs))))

    few_cond : (b : Bool) (r : Result (List (TaskRecord A)) TaskFailure) → results_with (cond b (Err TaskRecordError) r) ≡ cond b (Err TaskRecordError) (results_with r)
    few_cond true r = refl
    few_cond false r = refl

    few_with : (rs : List (RawRecord A)) → results_with (few_records login rs) ≡ few_records login (map raw_with rs)
    few_with rs =
        few_cond (ltb MOST_RECORDS (length rs)) (task_records login rs)
        ∙ (λ i. cond (ltb MOST_RECORDS (sym (length-map rs raw_with) i)) (Err TaskRecordError) (tasks_with rs i))

    asked_by_with : (out : A) (o : Option (List (RawRecord A))) → results_with (asked_by login out o) ≡ asked_by login (f out) (option_map (map raw_with) o)
    asked_by_with out None = refl
    asked_by_with out (Some rs) = few_with (with_output out rs) ∙ ap (few_records login) (output_with out rs)

    from_with : (left : Left) (r : Result (List (TaskRecord A)) TaskFailure) → fate_with f (fate_from left r) ≡ fate_from left (results_with r)
    from_with left (Ok ts) = refl
    from_with left (Err e) = refl

    unless_with : (left : Left) (o : Option TaskFailure) (r : Result (List (TaskRecord A)) TaskFailure) → fate_with f (fate_unless left o r) ≡ fate_unless left o (results_with r)
    unless_with left None r = from_with left r
    unless_with left (Some e) r = refl

    -- the fate over other bodies is the fate of the records over these
    pub judged_with : (left : Left) (out : A) (o : Option (List (RawRecord A))) → fate_with f (judged login left out o) ≡ judged login left (f out) (option_map (map raw_with) o)
    unfolding judged
    judged_with left out o =
        unless_with left (told_failure left) (asked_by login out o) ∙ ap (fate_unless left (told_failure left)) (asked_by_with out o)
