-- The records of a commit, taken one after another.
use Rattle.std.specs.Prelude.{◌≡◌, ℕ, ◌<◌, ⊤, Bool, true, false, List, [], length, take, Option, Some, None, Result, Ok, Err}
use Rattle.std.specs.List.{list_all}
use Rattle.mt_types.specs.declared.limits.TheConstants.{NUMBERS_A_COMMAND}
use Rattle.mt_types.specs.declared.task.Fate.{Fate}
use Rattle.mt_types.specs.declared.task.Fate.TheVariants as fate
use Rattle.mt_types.specs.declared.task.TaskFailure.{TaskFailure}
use Rattle.mt_types.specs.declared.task.TaskRecord.{TaskRecord}
use Rattle.mt_types.specs.declared.task.TaskRecord.TheVariants as task_record
use Rattle.mt_model.specs.Resolve.{Committing, Taken, fresh_place, take_records, with_parents}
use Rattle.mt_model.specs.Rows.{Rows, IsTree, put_refusal}
use Rattle.mt_resolve.specs.declared.records.Taking.{Taking}

module _ {B : Type 0} where
  -- a record names an output
  abbrev pub is_output : TaskRecord B → Bool
  is_output (task_record.Emit place reducer body) = true
  is_output (task_record.Keep place body) = false
  is_output (task_record.Ref name) = true

  -- a record is an output without a place, which is never refused
  abbrev pub is_fresh : TaskRecord B → Bool
  is_fresh (task_record.Emit None reducer body) = true
  is_fresh (task_record.Emit (Some place) reducer body) = false
  is_fresh (task_record.Keep place body) = false
  is_fresh (task_record.Ref name) = false

  -- so is each of these
  abbrev pub are_fresh : List (TaskRecord B) → Bool
  are_fresh records = list_all is_fresh records

  -- how far the records have been taken, over these rows
  abbrev pub taken_of : Rows B → Taking B → Taken B
  taken_of rows t = record { rows = rows; items = t.items.items; made = t.made }

  -- no record yet
  abbrev pub first_taken : Rows B → Taken B
  first_taken rows = record { rows = rows; items = []; made = 0 }

  -- what was taken, or why a record is refused
  abbrev pub taken_or : Option TaskFailure → Taken B → Result (Taken B) TaskFailure
  taken_or None t = Ok t
  taken_or (Some failure) t = Err failure

  -- one record more can be taken: an output without a place can stand where it is to stand, and there is a number for it
  pub record IsReady (c : Committing) (t : Taken B) : Type 0 where
    pub tree : IsTree t.rows
    pub place : put_refusal t.rows (fresh_place c t) ≡ None
    pub parents : with_parents t.rows (fresh_place c t) c.moment ≡ t.rows
    pub few : t.made < NUMBERS_A_COMMAND

  -- so it is after each front of the records that is taken, from here
  abbrev pub AreReadyFrom : Committing → Taken B → List (TaskRecord B) → Type 0
  AreReadyFrom c start records = (n : ℕ) (t : Taken B) → n < length records → take_records c (take n records) (Ok start) ≡ Ok t → IsReady c t

  -- and from the beginning
  abbrev pub AreReady : Committing → Rows B → List (TaskRecord B) → Type 0
  AreReady c rows records = AreReadyFrom c (first_taken rows) records

  -- a fate has its records ready
  abbrev pub HasReady : Committing → Rows B → Fate B → Type 0
  HasReady c rows (fate.Good records) = AreReady c rows records
  HasReady c rows (fate.Bad failure status stderr) = ⊤
