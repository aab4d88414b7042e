-- What the store answers a request, by the rows of the tree and the conditions: the tree's refusal, and then what the
-- conditions say of the object that stands there, or of none.
use Rattle.std.specs.Prelude.{Bool, true, false, Option, Some, None, Result, Ok, Err}
use Rattle.std.specs.Borrow.{Bor}
use Rattle.mt_path.specs.AccountPath.{AccountPath}
use Rattle.mt_types.specs.declared.object.Entry.{Entry}
use Rattle.mt_types.specs.declared.object.Entry.TheVariants as entry
use Rattle.mt_types.specs.declared.object.Object.{Object}
use Rattle.mt_types.specs.declared.refusal.Refusal.{Refusal}
use Rattle.mt_types.specs.declared.refusal.Refusal.TheVariants.{NotFound}
use Rattle.mt_model.specs.Rows.{Rows, at, link_refusal, object_at, put_refusal, remove_refusal}
use Rattle.mt_cond.specs.Conditions.{judged}
use Rattle.mt_cond.specs.declared.conditions.Conditions.{Conditions}
use Rattle.mt_cond.specs.declared.conditions.Judged.{Judged}
use Rattle.mt_cond.specs.declared.conditions.Judged.TheVariants as says
use Rattle.mt_store.specs.declared.error.StoreError.{StoreError}
use Rattle.mt_store.specs.declared.error.StoreError.TheVariants.{Refused, PreconditionFailed}
use Rattle.mt_store.specs.declared.reads.Found.{Found}
use Rattle.mt_store.specs.declared.reads.Found.TheVariants as found

-- what a verdict on a write is answered
abbrev pub verdict : Judged → Result (Unit {0}) StoreError
verdict says.Go = Ok tt
verdict says.NotModified = Err PreconditionFailed
verdict says.Failed = Err PreconditionFailed

-- the tree's refusal, or else the verdict
abbrev pub decided : Option Refusal → Judged → Result (Unit {0}) StoreError
decided (Some refusal) answer = Err (Refused refusal)
decided None answer = verdict answer

module _ {B : Type 0} where
  -- what conditions say of what stands there: those of an object are judged, others are ignored
  abbrev pub verdict_on : Conditions → Bool → Option (Entry B) → Judged
  verdict_on c is_read (Some (entry.Object object)) = judged c (Some object) is_read
  verdict_on c is_read (Some (entry.Directory mtime)) = says.Go
  verdict_on c is_read None = says.Go

  -- a put of an object: the conditions are judged of the object that stands there, or of none
  unfoldable pub put_decision : Rows B → AccountPath → Conditions → Result (Unit {0}) StoreError
  put_decision rows p c = decided (put_refusal rows p) (judged c (object_at rows p) false)

  -- a link, which is a put of what stands at its source
  unfoldable pub link_decision : Rows B → AccountPath → AccountPath → Conditions → Result (Unit {0}) StoreError
  link_decision rows p source c = decided (link_refusal rows p source) (judged c (object_at rows p) false)

  -- a delete
  unfoldable pub delete_decision : Rows B → AccountPath → Conditions → Result (Unit {0}) StoreError
  delete_decision rows p c = decided (remove_refusal rows p) (verdict_on c false (at rows p))

  -- what a reader of an object gets
  abbrev pub found_by : Judged → Object B → Result (Found (Object B)) StoreError
  found_by says.Go object = Ok (found.Object object)
  found_by says.NotModified object = Ok (found.NotModified object)
  found_by says.Failed object = Err PreconditionFailed

  -- what a reader of what stands there gets
  abbrev pub found_in : Conditions → Option (Entry B) → Result (Found (Object B)) StoreError
  found_in c None = Err (Refused NotFound)
  found_in c (Some (entry.Directory mtime)) = Ok found.Directory
  found_in c (Some (entry.Object object)) = found_by (judged c (Some object) true) object

  -- a read
  unfoldable pub read_decision : Rows B → AccountPath → Conditions → Result (Found (Object B)) StoreError
  read_decision rows p c = found_in c (at rows p)

  -- what was found, by its objects in place of the references to them
  abbrev pub read_now : Result (Found (Bor (Object B))) StoreError → Result (Found (Object B)) StoreError
  read_now (Ok found.Directory) = Ok found.Directory
  read_now (Ok (found.Object object)) = Ok (found.Object object.now)
  read_now (Ok (found.NotModified object)) = Ok (found.NotModified object.now)
  read_now (Err e) = Err e
