-- Records over other bodies: what a commit makes of them is the same.
use Rattle.std.proofs.Common.{◌≡◌, ℕ, ◌+◌, not, cond, ◌&&◌, List, [], ◌∷◌, map, Option, Some, None, Result, Ok, Err, refl, sym, ap, ◌∙◌}
use Rattle.std.specs.Prelude.{is_some}
use Rattle.std.specs.List.{list_any}
use Rattle.std.specs.Option.{option_map}
use Rattle.mt_path.specs.AccountPath.{AccountPath}
use Rattle.mt_types.specs.Values.{fate_with, item_with, object_with, record_with}
use Rattle.mt_types.specs.declared.object.Entry.TheVariants as entry
use Rattle.mt_types.specs.declared.object.Object.{Object}
use Rattle.mt_types.specs.declared.task.Fate.{Fate}
use Rattle.mt_types.specs.declared.task.Fate.TheVariants as fate
use Rattle.mt_types.specs.declared.task.TaskFailure.{TaskFailure}
use Rattle.mt_types.specs.declared.task.TaskFailure.TheVariants.{TaskPlaceRefused}
use Rattle.mt_types.specs.declared.task.TaskRecord.{TaskRecord}
use Rattle.mt_types.specs.declared.task.TaskRecord.TheVariants.{Emit, Keep, Ref}
use Rattle.mt_model.specs.Bodies.{resolved_with, rows_with, taken_with}
use Rattle.mt_model.specs.Names.{is_task_place, paths_above}
use Rattle.mt_model.specs.Resolve.{Committing, Taken, and_then, can_hold_object, fresh_place, with_output, is_object_at, kept, next_number, resolve, resolved, take_placed, take_record, take_records, take_reference, task_object, with_directory, with_parents}
use Rattle.mt_model.specs.Rows.{Rows, at, is_directory, object_at, with_row}
use Rattle.mt_model.proofs.Maps.{cond_ap, fold-with, map-append, same_function}
use Rattle.mt_model.proofs.RowsWith.{is_directory-with, is_some-map, is_there-with, object_at-with, with_row-with}

-- a result over other bodies
abbrev pub result_with : {X Y : Type 0} → (X → Y) → Result X TaskFailure → Result Y TaskFailure
result_with g (Ok x) = Ok (g x)
result_with g (Err failure) = Err failure

module _ {A B : Type 0} (f : A → B) where
  pub is_object_at-with : (rows : Rows A) (p : AccountPath) → is_object_at (rows_with f rows) p ≡ is_object_at rows p
  is_object_at-with rows p = ap is_some (object_at-with f rows p) ∙ is_some-map (object_with f) (object_at rows p)

  can_hold-with : (rows : Rows A) (job : ℕ) (p : AccountPath) → can_hold_object (rows_with f rows) job p ≡ can_hold_object rows job p
  can_hold-with rows job p =
      ap (λ b. is_task_place job p.area p.parts && not b && not (list_any (is_object_at (rows_with f rows)) (paths_above p))) (is_directory-with f rows p)
      ∙ ap (λ t. is_task_place job p.area p.parts && not (is_directory (at rows p)) && not (list_any t (paths_above p))) (same_function (is_object_at (rows_with f rows)) (is_object_at rows) (is_object_at-with rows))

  directory-with : (moment : ℕ) (rows : Rows A) (p : AccountPath) → with_directory moment (rows_with f rows) p ≡ rows_with f (with_directory moment rows p)
  directory-with moment rows p =
      ap (λ b. cond b (rows_with f rows) (with_row (rows_with f rows) p (entry.Directory moment))) (is_there-with f rows p)
      ∙ ap (cond (is_some (at rows p)) (rows_with f rows)) (with_row-with f rows p (entry.Directory moment))
      ∙ sym (cond_ap (rows_with f) (is_some (at rows p)) rows (with_row rows p (entry.Directory moment)))

  parents-with : (rows : Rows A) (p : AccountPath) (moment : ℕ) → with_parents (rows_with f rows) p moment ≡ rows_with f (with_parents rows p moment)
  parents-with rows p moment = fold-with (rows_with f) (with_directory moment) (with_directory moment) (directory-with moment) rows (paths_above p)

  kept-with : (c : Committing) (place : AccountPath) (body : A) (t : Taken A) → kept c place (f body) (taken_with f t) ≡ taken_with f (kept c place body t)
  kept-with c place body t =
      ap (λ rows. record (taken_with f t) { rows = with_row rows place (entry.Object (task_object (next_number c t) (f body) c.moment)); made = t.made + 1 }) (parents-with t.rows place c.moment)
      ∙ ap (λ rows. record (taken_with f t) { rows = rows; made = t.made + 1 }) (with_row-with f (with_parents t.rows place c.moment) place (entry.Object (task_object (next_number c t) body c.moment)))

  with_output-with : (c : Committing) (name : AccountPath) (body : A) (reducer : Option ℕ) (t : Taken A) → with_output c name (f body) reducer (taken_with f t) ≡ taken_with f (with_output c name body reducer t)
  with_output-with c name body reducer t =
      ap (λ items. record (taken_with f t) { items = items }) (sym (map-append (item_with f) t.items (record { name = name; root = c.root; body = body; reducer = reducer } ∷ [])))

  placed-with : (c : Committing) (place : AccountPath) (body : A) (t : Taken A) → take_placed c place (f body) (taken_with f t) ≡ result_with (taken_with f) (take_placed c place body t)
  placed-with c place body t =
      ap (λ b. cond b (Ok (kept c place (f body) (taken_with f t))) (Err TaskPlaceRefused)) (can_hold-with t.rows c.job place)
      ∙ ap (λ x. cond (can_hold_object t.rows c.job place) (Ok x) (Err TaskPlaceRefused)) (kept-with c place body t)
      ∙ sym (cond_ap (result_with (taken_with f)) (can_hold_object t.rows c.job place) (Ok (kept c place body t)) (Err TaskPlaceRefused))

  and_then-with : (next : Taken A → Result (Taken A) TaskFailure) (next' : Taken B → Result (Taken B) TaskFailure) → ((t : Taken A) → next' (taken_with f t) ≡ result_with (taken_with f) (next t)) → (r : Result (Taken A) TaskFailure) → and_then next' (result_with (taken_with f) r) ≡ result_with (taken_with f) (and_then next r)
  and_then-with next next' each (Ok t) = each t
  and_then-with next next' each (Err failure) = refl

  reference-with : (c : Committing) (name : AccountPath) (t : Taken A) (o : Option (Object A)) → take_reference c name (taken_with f t) (option_map (object_with f) o) ≡ result_with (taken_with f) (take_reference c name t o)
  reference-with c name t None = refl
  reference-with c name t (Some object) = ap Ok (with_output-with c name object.body None t)

  record-with : (c : Committing) (t : Taken A) (r : TaskRecord A) → take_record c (taken_with f t) (record_with f r) ≡ result_with (taken_with f) (take_record c t r)
  record-with c t (Emit None reducer body) =
      ap (λ x. Ok (with_output c (fresh_place c t) (f body) reducer x)) (kept-with c (fresh_place c t) body t)
      ∙ ap Ok (with_output-with c (fresh_place c t) body reducer (kept c (fresh_place c t) body t))
  record-with c t (Emit (Some place) reducer body) =
      ap (and_then (λ x. Ok (with_output c place (f body) reducer x))) (placed-with c place body t)
      ∙ and_then-with (λ x. Ok (with_output c place body reducer x)) (λ x. Ok (with_output c place (f body) reducer x)) (λ x. ap Ok (with_output-with c place body reducer x)) (take_placed c place body t)
  record-with c t (Keep place body) = placed-with c place body t
  record-with c t (Ref name) = ap (take_reference c name (taken_with f t)) (object_at-with f t.rows name) ∙ reference-with c name t (object_at t.rows name)

  records-with : (c : Committing) (rs : List (TaskRecord A)) (t : Result (Taken A) TaskFailure) → take_records c (map (record_with f) rs) (result_with (taken_with f) t) ≡ result_with (taken_with f) (take_records c rs t)
  records-with c [] t = refl
  records-with c (r ∷ rs) t =
      ap (take_records c (map (record_with f) rs)) (and_then-with (λ x. take_record c x r) (λ x. take_record c x (record_with f r)) (λ x. record-with c x r) t)
      ∙ records-with c rs (and_then (λ x. take_record c x r) t)

  resolved_cases : (rows : Rows A) (t : Result (Taken A) TaskFailure) → resolved (rows_with f rows) (result_with (taken_with f) t) ≡ resolved_with f (resolved rows t)
  resolved_cases rows (Ok t) = refl
  resolved_cases rows (Err failure) = refl

  -- a commit leaves the same
  pub resolve-with : (c : Committing) (rows : Rows A) (x : Fate A) → resolve c (rows_with f rows) (fate_with f x) ≡ resolved_with f (resolve c rows x)
  resolve-with c rows (fate.Good records) =
      let start : Result (Taken A) TaskFailure = Ok (record { rows = rows; items = []; made = 0 }) in
      ap (resolved (rows_with f rows)) (records-with c records start)
      ∙ resolved_cases rows (take_records c records start)
  resolve-with c rows (fate.Bad failure status stderr) = refl
