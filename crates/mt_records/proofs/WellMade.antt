-- Fates are well made: their records are few, and name paths.
use Rattle.std.proofs.Common.{◌≡◌, ℕ, suc, ◌≤◌, Bool, true, false, cond, ltb, List, [], ◌∷◌, length, Option, Some, None, Result, Ok, Err, refl, ap, subst, arith}
use Rattle.std.specs.Prelude.{IfOk, option_map}
use Rattle.std.specs.List.{AllByRecursion}
use Rattle.std.specs.Option.{ok_or}
use Rattle.std.specs.Result.{result_ok}
use Rattle.std.proofs.lemmas.Bool.{ltb-false}
use Rattle.mt_path.specs.AccountPath.{AccountPath, IsPath}
use Rattle.mt_path.specs.Names.{AreNames, area_of, names_of, path_in as area_path, path_of, path_of_text, text_pieces, and_then as path_and_then}
use Rattle.mt_path.specs.declared.area.Area.{Area}
use Rattle.mt_path.specs.declared.error.PathError.{PathError}
use Rattle.mt_path.proofs.Judged.{AreNames-from_names_of, IsPath-from_names}
use Rattle.mt_types.specs.WellMade.{IsWellMadeFate, IsWellMadeRecord}
use Rattle.mt_types.specs.declared.limits.TheConstants.{MOST_RECORDS}
use Rattle.mt_types.specs.declared.task.Raw.{Raw}
use Rattle.mt_types.specs.declared.task.TaskFailure.{TaskFailure}
use Rattle.mt_types.specs.declared.task.TaskFailure.TheVariants.{TaskRecordError, TaskPlaceRefused, TaskObjectMissing}
use Rattle.mt_types.specs.declared.task.TaskRecord.{TaskRecord}
use Rattle.mt_types.specs.declared.task.TaskRecord.TheVariants as task
use Rattle.mt_spawn.specs.Orders.{told_of}
use Rattle.mt_spawn.specs.Parts.{part_bytes}
use Rattle.mt_spawn.specs.declared.task.Left.{Left}
use Rattle.mt_spawn.specs.declared.task.Part.TheVariants as part
use Rattle.mt_records.specs.declared.head.RecordHead.{RecordHead}
use Rattle.mt_records.specs.declared.head.RecordHead.TheVariants as head
use Rattle.mt_records.specs.declared.record.RawRecord.{RawRecord}
use Rattle.mt_records.specs.Fate.{and_then, asked, asked_by, fate, fate_from, fate_unless, files_of, judged, path_in, records_in, task_record, task_records, told_failure, with_output}

-- ---- the path that a text names is one

by_area : (area : Option Area) (name : List ℕ) (parts : List (List ℕ)) (p : AccountPath) → ((a : Area) → area ≡ Some a → IsPath (record { area = a; parts = parts })) → area_path area parts ≡ Ok p → IsPath p
by_area None name parts p each found = absurd (cc)
by_area (Some a) name parts p each found =
    let whole : AccountPath = record { area = a; parts = parts } in
    let e : whole ≡ p = cc in
    subst IsPath e (each a refl)

of_names : (names : List (List ℕ)) (p : AccountPath) → AreNames names → path_of names ≡ Ok p → IsPath p
unfolding path_of
of_names [] p are found = absurd (cc)
of_names (name ∷ parts) p are found = by_area (area_of name) name parts p (λ a. IsPath-from_names name parts a are) found

by_names : (r : Result (List (List ℕ)) PathError) (p : AccountPath) → ((names : List (List ℕ)) → r ≡ Ok names → AreNames names) → path_and_then r path_of ≡ Ok p → IsPath p
by_names (Err e) p are found = absurd (cc)
by_names (Ok names) p are found = of_names names p (are names refl) found

text_path : (login text : List ℕ) (p : AccountPath) → path_of_text login text ≡ Ok p → IsPath p
text_path login text p found = by_names (names_of login (text_pieces login text)) p (AreNames-from_names_of login (text_pieces login text)) found

found_path : (r : Result AccountPath PathError) (p : AccountPath) → ((q : AccountPath) → r ≡ Ok q → IsPath q) → result_ok r ≡ Some p → IsPath p
found_path (Err e) p each found = absurd (cc)
found_path (Ok q) p each found = let e : q ≡ p = cc in subst IsPath e (each q refl)

path_in-is : (login text : List ℕ) (p : AccountPath) → path_in login text ≡ Some p → IsPath p
path_in-is login text p found = found_path (path_of_text login text) p (text_path login text) found

-- ---- records

module _ {B : Type 0} (login : List ℕ) where
  abbrev IsGood : TaskRecord B → Type 0
  IsGood t = IsWellMadeRecord t

  named_good : (o : Option AccountPath) (make : AccountPath → TaskRecord B) (e : TaskFailure) → ((p : AccountPath) → o ≡ Some p → IsGood (make p)) → IfOk (ok_or (option_map make o) e) IsGood
  named_good None make e each = tt
  named_good (Some p) make e each = each p refl

  asked_good : (h : RecordHead) (body : B) → IfOk (asked login h body) IsGood
  asked_good (head.Emit None reducer) body = tt
  asked_good (head.Emit (Some text) reducer) body = named_good (path_in login text) (λ p. task.Emit (Some p) reducer body) TaskPlaceRefused (path_in-is login text)
  asked_good (head.Keep text) body = named_good (path_in login text) (λ p. task.Keep p body) TaskPlaceRefused (path_in-is login text)
  asked_good (head.Ref text) body = named_good (path_in login text) (λ p. task.Ref p) TaskObjectMissing (path_in-is login text)

  -- so many records, each well made
  abbrev AreGood : ℕ → List (TaskRecord B) → Type 0
  AreGood n ts = (length ts ≡ n) × AllByRecursion IsGood ts

  one_more : (n : ℕ) (t : Result (TaskRecord B) TaskFailure) (rest : Result (List (TaskRecord B)) TaskFailure) → IfOk t IsGood → IfOk rest (AreGood n)
      → IfOk (and_then t (λ x. and_then rest (λ xs. Ok (x ∷ xs)))) (AreGood (suc n))
  one_more n (Err e) rest one others = tt
  one_more n (Ok x) (Err e) one others = tt
  one_more n (Ok x) (Ok xs) one others = (ap suc others.0, (one, others.1))

  tasks_good : (rs : List (RawRecord B)) → IfOk (task_records login rs) (AreGood (length rs))
  tasks_good [] = (refl, tt)
  tasks_good (r ∷ rs) = one_more (length rs) (task_record login r) (task_records login rs) (asked_good r.head r.body) (tasks_good rs)

  -- few records, each well made
  abbrev AreFew : List (TaskRecord B) → Type 0
  AreFew ts = (length ts ≤ MOST_RECORDS) × AllByRecursion IsGood ts

  few_of : (n : ℕ) (r : Result (List (TaskRecord B)) TaskFailure) → n ≤ MOST_RECORDS → IfOk r (AreGood n) → IfOk r AreFew
  few_of n (Err e) few all = tt
  few_of n (Ok ts) few all = let count = all.0 in (omega (arith, count, few), all.1)

  few_good : (n : ℕ) (r : Result (List (TaskRecord B)) TaskFailure) (b : Bool) → ltb MOST_RECORDS n ≡ b → IfOk r (AreGood n) → IfOk (cond b (Err TaskRecordError) r) AreFew
  few_good n r true test all = tt
  few_good n r false test all = few_of n r (ltb-false MOST_RECORDS n test) all

  asked_few : (out : B) (o : Option (List (RawRecord B))) → IfOk (asked_by login out o) AreFew
  asked_few out None = tt
  asked_few out (Some rs) =
      let all = with_output out rs in
      few_good (length all) (task_records login all) (ltb MOST_RECORDS (length all)) refl (tasks_good all)

  from_few : (left : Left) (r : Result (List (TaskRecord B)) TaskFailure) → IfOk r AreFew → IsWellMadeFate (fate_from left r)
  from_few left (Ok ts) few = few
  from_few left (Err e) few = tt

  unless_few : (left : Left) (o : Option TaskFailure) (r : Result (List (TaskRecord B)) TaskFailure) → IfOk r AreFew → IsWellMadeFate (fate_unless left o r)
  unless_few left None r few = from_few left r few
  unless_few left (Some e) r few = tt

  pub judged_few : (left : Left) (out : B) (o : Option (List (RawRecord B))) → IsWellMadeFate (judged login left out o)
  unfolding judged
  judged_few left out o = unless_few left (told_failure left) (asked_by login out o) (asked_few out o)

pub fates_are_well_made : (login : List ℕ) (raw : Raw) → IsWellMadeFate (fate login raw)
unfolding fate
fates_are_well_made login raw = judged_few login (told_of raw) (part_bytes raw.made part.Out) (records_in (files_of raw.made))
