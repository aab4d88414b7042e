-- What all records of a fate have, taken as a list: what holds of the raw records holds of what is asked by them.
use Rattle.std.proofs.Common.{◌≡◌, ℕ, ◌≤◌, Bool, true, false, cond, ltb, List, length, Option, Some, None, Result, Ok, Err, refl, arith}
use Rattle.std.specs.Prelude.{IfOk, IfSome}
use Rattle.std.proofs.lemmas.List.{length-take}
use Rattle.mt_types.specs.declared.limits.TheConstants.{LONGEST_STDERR, MOST_RECORDS}
use Rattle.mt_types.specs.declared.task.Fate.{Fate}
use Rattle.mt_types.specs.declared.task.Fate.TheVariants.{Good, Bad}
use Rattle.mt_types.specs.declared.task.TaskFailure.{TaskFailure}
use Rattle.mt_types.specs.declared.task.TaskFailure.TheVariants.{TaskRecordError}
use Rattle.mt_types.specs.declared.task.TaskRecord.{TaskRecord}
use Rattle.mt_spawn.specs.declared.task.Left.{Left}
use Rattle.mt_records.specs.declared.record.RawRecord.{RawRecord}
use Rattle.mt_records.specs.Fate.{asked_by, failed, fate_from, fate_unless, judged, task_records, told_failure, with_output}

module _ {B : Type 0} (login : List ℕ) (Q : List (RawRecord B) → Type 0) (R : List (TaskRecord B) → Type 0) (asks : (rs : List (RawRecord B)) → Q rs → IfOk (task_records login rs) R) where
  -- of the records of a good fate; a failed one has a front of standard error
  abbrev pub OfList : Fate B → Type 0
  OfList (Good ts) = R ts
  OfList (Bad failure status stderr) = length stderr ≤ LONGEST_STDERR

  few_asked : (b : Bool) (r : Result (List (TaskRecord B)) TaskFailure) → IfOk r R → IfOk (cond b (Err TaskRecordError) r) R
  few_asked true r all = tt
  few_asked false r all = all

  all_asked : (out : B) (o : Option (List (RawRecord B))) → IfSome o (λ rs. Q (with_output out rs)) → IfOk (asked_by login out o) R
  all_asked out None each = tt
  all_asked out (Some rs) each = few_asked (ltb MOST_RECORDS (length (with_output out rs))) (task_records login (with_output out rs)) (asks (with_output out rs) each)

  front : (left : Left) (e : TaskFailure) → OfList (failed left e)
  front left e = omega (arith, length-take LONGEST_STDERR left.stderr)

  from_list : (left : Left) (r : Result (List (TaskRecord B)) TaskFailure) → IfOk r R → OfList (fate_from left r)
  from_list left (Ok ts) all = all
  from_list left (Err e) all = front left e

  unless_list : (left : Left) (t : Option TaskFailure) (r : Result (List (TaskRecord B)) TaskFailure) → (t ≡ None → IfOk r R) → OfList (fate_unless left t r)
  unless_list left None r all = from_list left r (all refl)
  unless_list left (Some e) r all = front left e

  pub judged_list : (left : Left) (out : B) (o : Option (List (RawRecord B))) → (told_failure left ≡ None → IfSome o (λ rs. Q (with_output out rs))) → OfList (judged login left out o)
  unfolding judged
  judged_list left out o each = unless_list left (told_failure left) (asked_by login out o) (λ told. all_asked out o (each told))
