-- What a commit makes of the records of a task.
use Rattle.std.specs.Prelude.{◌≡◌, ℕ, ◌+◌, Bool, false, not, ◌&&◌, ⊤, List, [], ◌∷◌, ◌++◌, codes, Option, Some, None, is_some, Result, Ok, Err, if◌then◌else◌}
use Rattle.std.specs.List.{fold, list_any}
use Rattle.std.specs.Option.{option_map}
use Rattle.mt_model.specs.Types.{AccountPath, Emit, Fate, Item, Keep, Object, Outcome, Ref, TaskFailure, TaskObjectMissing, TaskPlaceRefused, TaskRecord}
use Rattle.mt_types.specs.declared.job.Outcome.TheVariants as outcome
use Rattle.mt_types.specs.declared.object.Entry.TheVariants as entry
use Rattle.mt_types.specs.declared.task.Fate.TheVariants as fate
use Rattle.mt_model.specs.Names.{anonymous_place, is_task_place, number_at, paths_above}
use Rattle.mt_model.specs.Rows.{Rows, at, is_directory, is_path, object_at, with_row}

-- the task that is committed: its job, its phase, what its outputs' names begin with, the position and the moment
pub record Committing : Type 0 where
  pub job : ℕ
  pub phase : ℕ
  pub root : List ℕ
  pub position : ℕ
  pub moment : ℕ

-- how far the records have been taken
pub record Taken (B : Type 0) : Type 0 where
  pub rows : Rows B
  -- the outputs so far
  pub items : List (Item B)
  -- how many objects were made
  pub made : ℕ

-- what a commit leaves
pub record Resolved (B : Type 0) : Type 0 where
  pub rows : Rows B
  pub outcome : Outcome B

-- the content type of what tasks make
abbrev pub task_content_type : List ℕ
task_content_type = codes "application/octet-stream"

-- the next step, where nothing was refused
abbrev pub and_then : {X Y : Type 0} → (X → Result Y TaskFailure) → Result X TaskFailure → Result Y TaskFailure
and_then next (Ok x) = next x
and_then next (Err failure) = Err failure

module _ {B : Type 0} where
  -- an object stands at a path
  abbrev pub is_object_at : Rows B → AccountPath → Bool
  is_object_at rows p = is_some (object_at rows p)

  -- a task of this job may make an object there: no directory stands there, and no object above it
  abbrev pub can_hold_object : Rows B → ℕ → AccountPath → Bool
  can_hold_object rows job p =
      is_task_place job p.area p.parts && not (is_directory (at rows p)) && not (list_any (is_object_at rows) (paths_above p))

  -- with a directory at a path where nothing stands
  abbrev pub with_directory : ℕ → Rows B → AccountPath → Rows B
  with_directory moment rows p = if is_some (at rows p) then rows else with_row rows p (entry.Directory moment)

  -- with the directories above a path that are missing
  abbrev pub with_parents : Rows B → AccountPath → ℕ → Rows B
  with_parents rows p moment = fold (with_directory moment) rows (paths_above p)

  -- a new object of a task
  abbrev pub task_object : ℕ → B → ℕ → Object B
  task_object number body moment =
      record { number = number; body = body; content_type = task_content_type; durability = None; metadata = []; mtime = moment }

  -- the number of the next object
  abbrev pub next_number : Committing → Taken B → ℕ
  next_number c t = number_at c.position t.made

  -- with an object at a place
  abbrev pub kept : Committing → AccountPath → B → Taken B → Taken B
  kept c place body t = record t {
    rows = with_row (with_parents t.rows place c.moment) place (entry.Object (task_object (next_number c t) body c.moment));
    made = t.made + 1;
  }

  -- with one more output
  abbrev pub with_output : Committing → AccountPath → B → Option ℕ → Taken B → Taken B
  with_output c name body reducer t =
      record t { items = t.items ++ record { name = name; root = c.root; body = body; reducer = reducer } ∷ [] }

  -- an object at a place that can hold it
  abbrev pub take_placed : Committing → AccountPath → B → Taken B → Result (Taken B) TaskFailure
  take_placed c place body t = if can_hold_object t.rows c.job place then Ok (kept c place body t) else Err TaskPlaceRefused

  -- where an output without a place is to stand
  abbrev pub fresh_place : Committing → Taken B → AccountPath
  fresh_place c t = anonymous_place c.job c.root c.phase (next_number c t)

  -- an output that is an object that stands there
  abbrev pub take_reference : Committing → AccountPath → Taken B → Option (Object B) → Result (Taken B) TaskFailure
  take_reference c name t None = Err TaskObjectMissing
  take_reference c name t (Some object) = Ok (with_output c name object.body None t)

  -- one record
  abbrev pub take_record : Committing → Taken B → TaskRecord B → Result (Taken B) TaskFailure
  take_record c t (Emit None reducer body) = Ok (with_output c (fresh_place c t) body reducer (kept c (fresh_place c t) body t))
  take_record c t (Emit (Some place) reducer body) =
      and_then (λ new. Ok (with_output c place body reducer new)) (take_placed c place body t)
  take_record c t (Keep place body) = take_placed c place body t
  take_record c t (Ref name) = take_reference c name t (object_at t.rows name)

  -- the records in order, up to the first that is refused
  abbrev pub take_records : Committing → List (TaskRecord B) → Result (Taken B) TaskFailure → Result (Taken B) TaskFailure
  take_records c [] t = t
  take_records c (r ∷ rs) t = take_records c rs (and_then (λ x. take_record c x r) t)

  -- what was taken, or the rows as they were
  abbrev pub resolved : Rows B → Result (Taken B) TaskFailure → Resolved B
  resolved rows (Ok t) = record { rows = t.rows; outcome = outcome.Good t.items }
  resolved rows (Err failure) = record { rows = rows; outcome = outcome.Bad failure 0 [] }

  -- what the commit of a fate leaves: all of its records, or none
  abbrev pub resolve : Committing → Rows B → Fate B → Resolved B
  resolve c rows (fate.Good records) = resolved rows (take_records c records (Ok (record { rows = rows; items = []; made = 0 })))
  resolve c rows (fate.Bad failure status stderr) = record { rows = rows; outcome = outcome.Bad failure status stderr }

  -- ---- what stands behind a commit

  -- an object of this body stands at a path
  abbrev pub HasBodyAt : Rows B → AccountPath → B → Type 0
  HasBodyAt rows p body = option_map (λ o. o.body) (object_at rows p) ≡ Some body

  -- a record puts an object at a path that it names
  abbrev pub puts_at : AccountPath → TaskRecord B → Bool
  puts_at p (Emit None reducer body) = false
  puts_at p (Emit (Some place) reducer body) = is_path place p
  puts_at p (Keep place body) = is_path place p
  puts_at p (Ref name) = false

  -- a body stands at a path, unless a later record puts another there
  abbrev pub HasLast : Rows B → List (TaskRecord B) → AccountPath → B → Type 0
  HasLast rows later p body = list_any (puts_at p) later ≡ false → HasBodyAt rows p body

  -- these outputs stand at their names, and what is kept beside them at its places
  abbrev pub HaveBodies : Rows B → List (TaskRecord B) → List (Item B) → Type 0
  HaveBodies rows [] items = items ≡ []
  HaveBodies rows (Keep place body ∷ rs) items = HasLast rows rs place body × HaveBodies rows rs items
  HaveBodies rows (Emit place reducer body ∷ rs) [] = ⊥
  HaveBodies rows (Emit place reducer body ∷ rs) (i ∷ items) = HasLast rows rs i.name i.body × HaveBodies rows rs items
  HaveBodies rows (Ref name ∷ rs) [] = ⊥
  HaveBodies rows (Ref name ∷ rs) (i ∷ items) = HasLast rows rs i.name i.body × HaveBodies rows rs items

  -- the same of the fate of a task and its outcome
  abbrev pub OutputsStand : Rows B → Fate B → Outcome B → Type 0
  OutputsStand rows (fate.Good records) (outcome.Good items) = HaveBodies rows records items
  OutputsStand rows (fate.Good records) (outcome.Bad failure status stderr) = ⊤
  OutputsStand rows (fate.Bad failure status stderr) o = ⊤
