-- What holds of each entry and each body goes on to hold over what a commit and an archive make.
use Rattle.std.proofs.Common.{◌≡◌, ℕ, ◌+◌, cond, Bool, true, false, List, [], ◌∷◌, ◌++◌, map, Option, Some, None, refl, subst}
use Rattle.std.specs.Prelude.{Result, Ok, Err, is_some}
use Rattle.std.specs.List.{AllByRecursion, find, fold}
use Rattle.std.proofs.lemmas.Option.{none-some, same_Some}
use Rattle.mt_path.specs.AccountPath.{AccountPath}
use Rattle.mt_path.specs.PathOrder.{path_cmp}
use Rattle.mt_types.specs.declared.job.Item.{Item}
use Rattle.mt_types.specs.declared.object.Entry.{Entry}
use Rattle.mt_types.specs.declared.object.Entry.TheVariants as entry
use Rattle.mt_types.specs.declared.object.Object.{Object}
use Rattle.mt_types.specs.declared.task.Fate.{Fate}
use Rattle.mt_types.specs.declared.task.Fate.TheVariants as fate
use Rattle.mt_types.specs.declared.task.TaskFailure.{TaskFailure}
use Rattle.mt_types.specs.declared.task.TaskFailure.TheVariants.{TaskPlaceRefused}
use Rattle.mt_types.specs.declared.task.TaskRecord.{TaskRecord}
use Rattle.mt_types.specs.declared.task.TaskRecord.TheVariants.{Emit, Keep, Ref}
use Rattle.mt_model.specs.Bodies.{OfFate, OfItems, OfOutcome, OfRecord}
use Rattle.mt_model.specs.JobSteps.{archive_object, with_archive_from}
use Rattle.mt_model.specs.Names.{in_job_folder, number_at, paths_above}
use Rattle.mt_model.specs.Resolve.{Committing, Resolved, Taken, and_then, can_hold_object, fresh_place, kept, next_number, resolve, resolved, take_placed, take_record, take_records, take_reference, task_object, with_directory, with_output, with_parents}
use Rattle.mt_model.specs.Rows.{Rows, at, object_at, with_row}
use Rattle.mt_model.proofs.Keeping.{OfEach, entry_at, inserted}

module _ {X : Type 0} (P : X → Type 0) where
  pub pushed : (xs : List X) (x : X) → AllByRecursion P xs → P x → AllByRecursion P (xs ++ x ∷ [])
  pushed [] x all is = (is, tt)
  pushed (y ∷ ys) x all is = (all.0, pushed ys x all.1 is)

  pub changed : (test : X → Bool) (f : X → X) → ((x : X) → P x → P (f x)) → (xs : List X) → AllByRecursion P xs → AllByRecursion P (map (λ x. cond (test x) (f x) x) xs)
  changed test f keep [] all = tt
  changed test f keep (x ∷ xs) all =
      let here : P (cond (test x) (f x) x) = elim (test x) as (λ b. P (cond b (f x) x)) [ true ↦ keep x all.0 | false ↦ all.0 ] in
      (here, changed test f keep xs all.1)

  pub first_found : (test : X → Bool) (xs : List X) (x : X) → AllByRecursion P xs → find test xs ≡ Some x → P x
  first_found test [] x all is = absurd (none-some x is)
  first_found test (y ∷ ys) x all is =
      let by : cond (test y) (Some y) (find test ys) ≡ Some x → P x = elim (test y) as (λ b. cond b (Some y) (find test ys) ≡ Some x → P x) [
        | true ↦ λ here. subst P (same_Some _ _ here) all.0
        | false ↦ λ here. first_found test ys x all.1 here
      ] in
      by is

-- what a commit makes: directories of its moment, objects of bodies that its records bring, outputs of those and of objects that stand
module _ {B : Type 0} (P : B → Type 0) (Q : Entry B → Type 0) (held : (o : Object B) → Q (entry.Object o) → P o.body) (c : Committing)
    (folder : Q (entry.Directory c.moment)) (made : (number : ℕ) (body : B) → P body → Q (entry.Object (task_object number body c.moment))) where
  abbrev IsTaken : Taken B → Type 0
  IsTaken t = OfEach Q t.rows × OfItems P t.items

  abbrev AreTaken : Result (Taken B) TaskFailure → Type 0
  AreTaken (Ok t) = IsTaken t
  AreTaken (Err failure) = Unit {0}

  parents : (ps : List AccountPath) (rows : Rows B) → OfEach Q rows → OfEach Q (fold (with_directory c.moment) rows ps)
  parents [] rows all = all
  parents (p ∷ ps) rows all =
      let here : OfEach Q (with_directory c.moment rows p) = elim (is_some (at rows p)) as (λ b. OfEach Q (cond b rows (with_row rows p (entry.Directory c.moment)))) [
        | true ↦ all
        | false ↦ inserted Q path_cmp rows p (entry.Directory c.moment) all folder
      ] in
      parents ps (with_directory c.moment rows p) here

  kept_taken : (place : AccountPath) (body : B) (t : Taken B) → P body → IsTaken t → IsTaken (kept c place body t)
  kept_taken place body t is all = (
    inserted Q path_cmp (with_parents t.rows place c.moment) place (entry.Object (task_object (next_number c t) body c.moment)) (parents (paths_above place) t.rows all.0) (made (next_number c t) body is),
    all.1,
  )

  given : (name : AccountPath) (body : B) (reducer : Option ℕ) (t : Taken B) → P body → IsTaken t → IsTaken (with_output c name body reducer t)
  given name body reducer t is all = (all.0, pushed (λ (i : Item B). P i.body) t.items (record { name = name; root = c.root; body = body; reducer = reducer }) all.1 is)

  placed : (place : AccountPath) (body : B) (t : Taken B) → P body → IsTaken t → AreTaken (take_placed c place body t)
  placed place body t is all = elim (can_hold_object t.rows c.job place) as (λ b. AreTaken (cond b (Ok (kept c place body t)) (Err TaskPlaceRefused))) [
    | true ↦ kept_taken place body t is all
    | false ↦ tt
  ]

  next_taken : (next : Taken B → Result (Taken B) TaskFailure) → ((t : Taken B) → IsTaken t → AreTaken (next t)) → (r : Result (Taken B) TaskFailure) → AreTaken r → AreTaken (and_then next r)
  next_taken next more (Ok t) all = more t all
  next_taken next more (Err failure) all = tt

  referred : (name : AccountPath) (t : Taken B) (o : Option (Object B)) → object_at t.rows name ≡ o → IsTaken t → AreTaken (take_reference c name t o)
  referred name t None is all = tt
  referred name t (Some o) is all = given name o.body None t (held o (entry_at Q t.rows name o all.0 is)) all

  record_taken : (t : Taken B) (r : TaskRecord B) → OfRecord P r → IsTaken t → AreTaken (take_record c t r)
  record_taken t (Emit None reducer body) is all = given (fresh_place c t) body reducer (kept c (fresh_place c t) body t) is (kept_taken (fresh_place c t) body t is all)
  record_taken t (Emit (Some place) reducer body) is all =
      next_taken (λ new. Ok (with_output c place body reducer new)) (λ new got. given place body reducer new is got) (take_placed c place body t) (placed place body t is all)
  record_taken t (Keep place body) is all = placed place body t is all
  record_taken t (Ref name) is all = referred name t (object_at t.rows name) refl all

  records_taken : (rs : List (TaskRecord B)) (r : Result (Taken B) TaskFailure) → AllByRecursion (OfRecord P) rs → AreTaken r → AreTaken (take_records c rs r)
  records_taken [] r each all = all
  records_taken (x ∷ xs) r each all =
      records_taken xs (and_then (λ t. take_record c t x) r) each.1 (next_taken (λ t. take_record c t x) (λ t got. record_taken t x each.0 got) r all)

  abbrev IsResolved : Resolved B → Type 0
  IsResolved r = OfEach Q r.rows × OfOutcome P r.outcome

  resolved_case : (rows : Rows B) → OfEach Q rows → (r : Result (Taken B) TaskFailure) → AreTaken r → IsResolved (resolved rows r)
  resolved_case rows all (Ok t) got = got
  resolved_case rows all (Err failure) got = (all, tt)

  pub resolve_keeps : (rows : Rows B) (x : Fate B) → OfEach Q rows → OfFate P x → (OfEach Q (resolve c rows x).rows) × OfOutcome P (resolve c rows x).outcome
  resolve_keeps rows (fate.Good records) all is =
      resolved_case rows all (take_records c records (Ok (record { rows = rows; items = []; made = 0 }))) (records_taken records (Ok (record { rows = rows; items = []; made = 0 })) is (all, tt))
  resolve_keeps rows (fate.Bad failure status stderr) all is = (all, tt)

-- what an archive makes: objects of these content types and bodies
module _ {B : Type 0} (P : B → Type 0) (T : List ℕ → Type 0) (Q : Entry B → Type 0) (moment : ℕ)
    (made : (number : ℕ) (content_type : List ℕ) (body : B) → T content_type → P body → Q (entry.Object (archive_object number content_type body moment))) where
  pub archive_keeps : (index : ℕ) (rows : Rows B) (job position : ℕ) (names : List (List ℕ × List ℕ)) (bodies : List B)
      → AllByRecursion (λ n. T n.1) names → AllByRecursion P bodies → OfEach Q rows → OfEach Q (with_archive_from index rows job position moment names bodies)
  archive_keeps index rows job position [] bodies types each all = all
  archive_keeps index rows job position (n ∷ ns) [] types each all = all
  archive_keeps index rows job position (n ∷ ns) (b ∷ bs) types each all =
      archive_keeps (index + 1) (with_row rows (in_job_folder job n.0) (entry.Object (archive_object (number_at position index) n.1 b moment))) job position ns bs types.1 each.1
      (inserted Q path_cmp rows (in_job_folder job n.0) (entry.Object (archive_object (number_at position index) n.1 b moment)) all (made (number_at position index) n.1 b types.0 each.0))
