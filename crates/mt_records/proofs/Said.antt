-- A fate over ranges says only what fits: the reducers that were read have four bytes. And a fate over other bodies says the same.
use Rattle.std.proofs.Common.{◌≡◌, ℕ, ◌+◌, ◌<◌, ◌^◌, Bool, true, false, cond, List, [], ◌∷◌, ◌++◌, length, take, Option, Some, None, Result, Ok, Err, refl, sym, subst, arith}
use Rattle.std.specs.Prelude.{IfOk, IfSome, option_map, option_and_then}
use Rattle.std.specs.List.{AllByRecursion, AllZip, list_any}
use Rattle.std.specs.Option.{ok_or}
use Rattle.mt_path.specs.AccountPath.{AccountPath, IsPath}
use Rattle.mt_types.specs.WellMade.{IsWellMadeFate, IsWellMadeRecord}
use Rattle.mt_types.specs.declared.task.Fate.{Fate}
use Rattle.mt_types.specs.declared.task.Fate.TheVariants.{Good, Bad}
use Rattle.mt_types.specs.declared.task.TaskFailure.{TaskFailure}
use Rattle.mt_types.specs.declared.task.TaskFailure.TheVariants.{TaskPlaceRefused, TaskObjectMissing}
use Rattle.mt_types.specs.declared.task.TaskRecord.{TaskRecord}
use Rattle.mt_types.specs.declared.task.TaskRecord.TheVariants.{Emit, Keep, Ref}
use Rattle.mt_model.specs.Keeping.{IsSaidFate, IsSaidRecord}
use Rattle.mt_records.specs.declared.head.RecordHead.{RecordHead}
use Rattle.mt_records.specs.declared.head.RecordHead.TheVariants as head
use Rattle.mt_records.specs.declared.range.Range.{Range}
use Rattle.mt_records.specs.declared.record.RawRecord.{RawRecord}
use Rattle.mt_records.specs.Fate.{all_records, and_then, asked, makes_output, output_record, path_in, task_record, task_records, with_output}
use Rattle.mt_records.specs.Heads.{IsHead}
use Rattle.mt_records.specs.Laws.{HasLength, IsOver, OverIsSaid, OverIsWellMade, OverRecord, RangedIsSaid, RangedIsWellMade}
use Rattle.mt_records.specs.Records.{AreBytes}
use Rattle.mt_records.specs.Seen.{fate_of, output_range, range_in, range_record, shown}
use Rattle.mt_records.specs.Windows.{Window, body_len, body_start, head_before, headed, record_of, record_with}
use Rattle.mt_records.proofs.Ends.{IsBytes-take}
use Rattle.mt_records.proofs.Heads.{whole_takes}
use Rattle.mt_records.proofs.Lists.{OfList, judged_list}
use Rattle.mt_records.proofs.Records.{found_head}
use Rattle.mt_records.proofs.WellMade.{judged_few}

-- ---- what a head asks for

-- the reducer of an output has four bytes
abbrev SaysHead : RecordHead → Type 0
SaysHead (head.Emit place reducer) = IfSome reducer (λ n. n < 2 ^ 32)
SaysHead (head.Keep place) = Unit {0}
SaysHead (head.Ref name) = Unit {0}

says_head : (h : RecordHead) → IsHead h → SaysHead h
says_head (head.Emit place reducer) is = is.1
says_head (head.Keep place) is = tt
says_head (head.Ref name) is = tt

module _ {B : Type 0} where
  abbrev SaysRaw : RawRecord B → Type 0
  SaysRaw r = SaysHead r.head

  module _ (login : List ℕ) where
    named_said : (o : Option AccountPath) (make : AccountPath → TaskRecord B) (e : TaskFailure) → ((p : AccountPath) → IsSaidRecord (make p)) → IfOk (ok_or (option_map make o) e) (λ t. IsSaidRecord t)
    named_said None make e each = tt
    named_said (Some p) make e each = each p

    asked_said : (h : RecordHead) (body : B) → SaysHead h → IfOk (asked login h body) (λ t. IsSaidRecord t)
    asked_said (head.Emit None reducer) body says = says
    asked_said (head.Emit (Some text) reducer) body says = named_said (path_in login text) (λ p. Emit (Some p) reducer body) TaskPlaceRefused (λ p. says)
    asked_said (head.Keep text) body says = named_said (path_in login text) (λ p. Keep p body) TaskPlaceRefused (λ p. tt)
    asked_said (head.Ref text) body says = named_said (path_in login text) (λ p. Ref p) TaskObjectMissing (λ p. tt)

    one_said : (t : Result (TaskRecord B) TaskFailure) (rest : Result (List (TaskRecord B)) TaskFailure) → IfOk t (λ x. IsSaidRecord x) → IfOk rest (λ ts. AllByRecursion IsSaidRecord ts)
        → IfOk (and_then t (λ x. and_then rest (λ xs. Ok (x ∷ xs)))) (λ ts. AllByRecursion IsSaidRecord ts)
    one_said (Err e) rest one others = tt
    one_said (Ok x) (Err e) one others = tt
    one_said (Ok x) (Ok xs) one others = (one, others)

    tasks_said : (rs : List (RawRecord B)) → AllByRecursion SaysRaw rs → IfOk (task_records login rs) (λ ts. AllByRecursion IsSaidRecord ts)
    tasks_said [] each = tt
    tasks_said (r ∷ rs) each = one_said (task_record login r) (task_records login rs) (asked_said r.head r.body each.0) (tasks_said rs each.1)

  push_said : (rs : List (RawRecord B)) (r : RawRecord B) → AllByRecursion SaysRaw rs → SaysRaw r → AllByRecursion SaysRaw (rs ++ r ∷ [])
  push_said [] r each one = (one, tt)
  push_said (q ∷ rs) r each one = (each.0, push_said rs r each.1 one)

  cond_said : (b : Bool) (xs ys : List (RawRecord B)) → AllByRecursion SaysRaw xs → AllByRecursion SaysRaw ys → AllByRecursion SaysRaw (cond b xs ys)
  cond_said true xs ys one other = one
  cond_said false xs ys one other = other

  output_said : (out : B) (rs : List (RawRecord B)) → AllByRecursion SaysRaw rs → AllByRecursion SaysRaw (with_output out rs)
  unfolding with_output
  output_said out rs each = cond_said (list_any makes_output rs) rs (rs ++ output_record out ∷ []) each (push_said rs (output_record out) each tt)

-- ---- what windows show

head_said : (r : Range) (o : Option RecordHead) → ((h : RecordHead) → o ≡ Some h → SaysHead h) → IfSome (option_map (headed r) o) (λ r. SaysRaw r)
head_said r None each = tt
head_said r (Some h) each = each h refl

len_said : (k : ℕ) (w : Window) → AreBytes w.front → (o : Option ℕ) → IfSome (option_and_then (record_of (range_in k) w) o) (λ r. SaysRaw r)
len_said k w bytes None = tt
len_said k w bytes (Some n) =
    head_said (range_in k (body_start w n) n) (head_before (body_start w n) n w.front)
    (λ h is. says_head h (whole_takes (take (body_start w n) w.front) h (IsBytes-take (body_start w n) w.front bytes) (found_head (body_start w n) n w.front h is).1).1)

record_said : (k : ℕ) (w : Window) → AreBytes w.front → IfSome (range_record k w) (λ r. SaysRaw r)
unfolding record_with
record_said k w bytes = len_said k w bytes (body_len w.end w.len)

more_said : (r : Option (RawRecord Range)) (o : Option (List (RawRecord Range))) → IfSome r (λ x. SaysRaw x) → IfSome o (λ all. AllByRecursion SaysRaw all)
    → IfSome (option_and_then (λ x. option_map (λ xs. x ∷ xs) o) r) (λ all. AllByRecursion SaysRaw all)
more_said None o one others = tt
more_said (Some x) None one others = tt
more_said (Some x) (Some xs) one others = (one, others)

shown_said : (k : ℕ) (ws : List Window) → AllByRecursion (λ w. AreBytes w.front) ws → IfSome (all_records (shown k ws)) (λ all. AllByRecursion SaysRaw all)
unfolding all_records shown
shown_said k [] bytes = tt
shown_said k (w ∷ ws) bytes = more_said (range_record k w) (all_records (shown (k + 1) ws)) (record_said k w bytes.0) (shown_said (k + 1) ws bytes.1)

with_out : (out : Range) (o : Option (List (RawRecord Range))) → IfSome o (λ all. AllByRecursion SaysRaw all) → IfSome o (λ rs. AllByRecursion SaysRaw (with_output out rs))
with_out out None each = tt
with_out out (Some rs) each = output_said out rs each

pub ranged_is_said : RangedIsSaid
ranged_is_said j ws has bytes =
    by (fate_of j) (judged_list j.login (λ rs. AllByRecursion SaysRaw rs) (λ ts. AllByRecursion IsSaidRecord ts) (tasks_said j.login) j.left (output_range j.left) j.records
    (λ told. subst (λ (o : Option (List (RawRecord Range))). IfSome o (λ rs. AllByRecursion SaysRaw (with_output (output_range j.left) rs))) (sym (has.records told))
    (with_out (output_range j.left) (all_records (shown 0 ws)) (shown_said 0 ws bytes))))
  where
    by : (f : Fate Range) → OfList j.login (λ rs. AllByRecursion SaysRaw rs) (λ ts. AllByRecursion IsSaidRecord ts) (tasks_said j.login) f → IsSaidFate f
    by (Good ts) is = is
    by (Bad failure status stderr) is = is

pub ranged_is_well_made : RangedIsWellMade
ranged_is_well_made j = judged_few j.login j.left (output_range j.left) j.records

-- ---- over other bodies

module _ (P : Range → List ℕ → Type 0) where
  record_made : (t : TaskRecord Range) (u : TaskRecord (List ℕ)) → OverRecord P t u → IsWellMadeRecord t → IsWellMadeRecord u
  record_made (Emit place reducer r) (Emit other given bytes) over is = subst (λ (o : Option AccountPath). IfSome o IsPath) (sym over.0) is
  record_made (Emit place reducer r) (Keep other bytes) over is = absurd over
  record_made (Emit place reducer r) (Ref other) over is = absurd over
  record_made (Keep place r) (Keep other bytes) over is = subst IsPath (sym over.0) is
  record_made (Keep place r) (Emit other given bytes) over is = absurd over
  record_made (Keep place r) (Ref other) over is = absurd over
  record_made (Ref name) (Ref other) over is = subst IsPath (sym over) is
  record_made (Ref name) (Emit other given bytes) over is = absurd over
  record_made (Ref name) (Keep other bytes) over is = absurd over

  record_said_too : (t : TaskRecord Range) (u : TaskRecord (List ℕ)) → OverRecord P t u → IsSaidRecord t → IsSaidRecord u
  record_said_too (Emit place reducer r) (Emit other given bytes) over is = subst (λ (o : Option ℕ). IfSome o (λ n. n < 2 ^ 32)) (sym over.1) is
  record_said_too (Emit place reducer r) (Keep other bytes) over is = absurd over
  record_said_too (Emit place reducer r) (Ref other) over is = absurd over
  record_said_too (Keep place r) (Keep other bytes) over is = tt
  record_said_too (Keep place r) (Emit other given bytes) over is = absurd over
  record_said_too (Keep place r) (Ref other) over is = absurd over
  record_said_too (Ref name) (Ref other) over is = tt
  record_said_too (Ref name) (Emit other given bytes) over is = absurd over
  record_said_too (Ref name) (Keep other bytes) over is = absurd over

  records_count : (ts : List (TaskRecord Range)) (us : List (TaskRecord (List ℕ))) → AllZip (OverRecord P) ts us → length us ≡ length ts
  records_count [] [] over = refl
  records_count [] (u ∷ us) over = absurd over
  records_count (t ∷ ts) [] over = absurd over
  records_count (t ∷ ts) (u ∷ us) over = omega (arith, records_count ts us over.1)

  records_made : (ts : List (TaskRecord Range)) (us : List (TaskRecord (List ℕ))) → AllZip (OverRecord P) ts us → AllByRecursion IsWellMadeRecord ts → AllByRecursion IsWellMadeRecord us
  records_made [] [] over is = tt
  records_made [] (u ∷ us) over is = absurd over
  records_made (t ∷ ts) [] over is = absurd over
  records_made (t ∷ ts) (u ∷ us) over is = (record_made t u over.0 is.0, records_made ts us over.1 is.1)

  records_said : (ts : List (TaskRecord Range)) (us : List (TaskRecord (List ℕ))) → AllZip (OverRecord P) ts us → AllByRecursion IsSaidRecord ts → AllByRecursion IsSaidRecord us
  records_said [] [] over is = tt
  records_said [] (u ∷ us) over is = absurd over
  records_said (t ∷ ts) [] over is = absurd over
  records_said (t ∷ ts) (u ∷ us) over is = (record_said_too t u over.0 is.0, records_said ts us over.1 is.1)

  pub over_made : (f : Fate Range) (g : Fate (List ℕ)) → IsOver P f g → IsWellMadeFate f → IsWellMadeFate g
  over_made (Good ts) (Good us) over is = let count = records_count ts us over in (omega (arith, count, is.0), records_made ts us over is.1)
  over_made (Good ts) (Bad failure status stderr) over is = absurd over
  over_made (Bad failure status stderr) g over is = subst IsWellMadeFate (sym over) tt

  pub over_said : (f : Fate Range) (g : Fate (List ℕ)) → IsOver P f g → IsSaidFate f → IsSaidFate g
  over_said (Good ts) (Good us) over is = records_said ts us over is
  over_said (Good ts) (Bad failure status stderr) over is = absurd over
  over_said (Bad failure status stderr) g over is = subst IsSaidFate (sym over) is

pub over_is_well_made : OverIsWellMade
over_is_well_made = over_made HasLength

pub over_is_said : OverIsSaid
over_is_said = over_said HasLength
