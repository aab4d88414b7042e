-- Decisions hang on no body.
use Rattle.std.specs.Prelude.{◌≡◌, Result, Ok, Err}
use Rattle.mt_path.specs.AccountPath.{AccountPath}
use Rattle.mt_types.specs.Values.{object_with}
use Rattle.mt_types.specs.declared.object.Object.{Object}
use Rattle.mt_model.specs.Bodies.{rows_with}
use Rattle.mt_model.specs.Rows.{Rows}
use Rattle.mt_cond.specs.declared.conditions.Conditions.{Conditions}
use Rattle.mt_store.specs.Decisions.{delete_decision, link_decision, put_decision, read_decision}
use Rattle.mt_store.specs.declared.error.StoreError.{StoreError}
use Rattle.mt_store.specs.declared.reads.Found.{Found}
use Rattle.mt_store.specs.declared.reads.Found.TheVariants as found

module _ (A B : Type 0) where
  -- a put, a link and a delete are decided alike over rows with other bodies
  abbrev pub PutIsRead : Type 0
  PutIsRead = (f : A → B) (rows : Rows A) (p : AccountPath) (c : Conditions) → put_decision (rows_with f rows) p c ≡ put_decision rows p c

  abbrev pub LinkIsRead : Type 0
  LinkIsRead = (f : A → B) (rows : Rows A) (p source : AccountPath) (c : Conditions) → link_decision (rows_with f rows) p source c ≡ link_decision rows p source c

  abbrev pub DeleteIsRead : Type 0
  DeleteIsRead = (f : A → B) (rows : Rows A) (p : AccountPath) (c : Conditions) → delete_decision (rows_with f rows) p c ≡ delete_decision rows p c

module _ {A B : Type 0} (f : A → B) where
  -- what was found, with another body
  abbrev pub found_with : Result (Found (Object A)) StoreError → Result (Found (Object B)) StoreError
  found_with (Ok found.Directory) = Ok found.Directory
  found_with (Ok (found.Object object)) = Ok (found.Object (object_with f object))
  found_with (Ok (found.NotModified object)) = Ok (found.NotModified (object_with f object))
  found_with (Err e) = Err e

-- a read finds the object with the other body
abbrev pub ReadIsRead : Type 0 → Type 0 → Type 0
ReadIsRead A B = (f : A → B) (rows : Rows A) (p : AccountPath) (c : Conditions) → read_decision (rows_with f rows) p c ≡ found_with f (read_decision rows p c)
