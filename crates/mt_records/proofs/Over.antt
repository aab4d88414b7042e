-- A fate over bytes that were read record by record is one over a function of ranges: records of files stand in turn, the k-th over the k-th
-- file, and standard output stands last.
use Rattle.std.proofs.Common.{◌≡◌, ◌≢◌, ℕ, suc, ◌+◌, ◌==◌, ◌⊎◌, inl, inr, Bool, true, false, cond, List, [], ◌∷◌, ◌++◌, map, length, Option, Some, None, Result, Ok, Err, refl, sym, ap, subst, ◌∙◌, arith}
use Rattle.std.specs.Prelude.{IfOk, IfSome, option_map, option_and_then, replicate}
use Rattle.std.specs.List.{AllZip, list_any, slice_get}
use Rattle.std.proofs.lemmas.Bool.{eqb-true}
use Rattle.std.proofs.Common.{eq-eqb}
use Rattle.std.proofs.lemmas.List.{length-replicate}
use Rattle.mt_types.specs.Values.{fate_with, record_with as task_with}
use Rattle.mt_types.specs.declared.task.Fate.{Fate}
use Rattle.mt_types.specs.declared.task.Fate.TheVariants.{Good, Bad}
use Rattle.mt_types.specs.declared.task.TaskFailure.{TaskFailure}
use Rattle.mt_types.specs.declared.task.TaskRecord.{TaskRecord}
use Rattle.mt_types.specs.declared.task.TaskRecord.TheVariants.{Emit, Keep, Ref}
use Rattle.mt_model.specs.Bodies.{OfRecord}
use Rattle.mt_spawn.specs.declared.task.Part.{Part}
use Rattle.mt_spawn.specs.declared.task.Part.TheVariants.{File, Out}
use Rattle.mt_records.specs.declared.head.RecordHead.{RecordHead}
use Rattle.mt_records.specs.declared.range.Range.{Range}
use Rattle.mt_records.specs.declared.record.RawRecord.{RawRecord}
use Rattle.mt_records.specs.Fate.{all_records, and_then, makes_output, output_record, task_record, task_records, with_output}
use Rattle.mt_records.specs.Laws.{FateOfStored, HasLength, IsOver, OverRecord}
use Rattle.mt_records.specs.Seen.{HasSeen, Judgement, fate_of, output_range, range_in, range_record, shown}
use Rattle.mt_records.specs.Windows.{Window, body_len, body_start, head_before, headed, record_of, record_with}
use Rattle.mt_records.proofs.Lists.{OfList, judged_list}
use Rattle.mt_records.proofs.Whole.{fates_of_any_bytes}
use Rattle.mt_records.proofs.Within.{asked_of}

-- ---- records in turn

-- a range of this part
abbrev IsPart : Part → Range → Type 0
IsPart p r = r.part ≡ p

-- each is over the file of its place, from this one on
abbrev OfFiles : ℕ → List (RawRecord Range) → Type 0
OfFiles n [] = Unit {0}
OfFiles n (r ∷ rs) = IsPart (File n) r.body × OfFiles (n + 1) rs

-- and the last may be over standard output
abbrev InTurn : ℕ → List (RawRecord Range) → Type 0
InTurn n [] = Unit {0}
InTurn n (r ∷ rs) = (IsPart (File n) r.body × InTurn (n + 1) rs) ⊎ (IsPart Out r.body × (rs ≡ []))

abbrev TasksInTurn : ℕ → List (TaskRecord Range) → Type 0
TasksInTurn n [] = Unit {0}
TasksInTurn n (t ∷ ts) = (OfRecord (IsPart (File n)) t × TasksInTurn (n + 1) ts) ⊎ (OfRecord (IsPart Out) t × (ts ≡ []))

files_in_turn : (n : ℕ) (rs : List (RawRecord Range)) → OfFiles n rs → InTurn n rs
files_in_turn n [] each = tt
files_in_turn n (r ∷ rs) each = inl (each.0, files_in_turn (n + 1) rs each.1)

push_output : (n : ℕ) (rs : List (RawRecord Range)) (r : RawRecord Range) → OfFiles n rs → IsPart Out r.body → InTurn n (rs ++ r ∷ [])
push_output n [] r each out = inr (out, refl)
push_output n (q ∷ rs) r each out = inl (each.0, push_output (n + 1) rs r each.1 out)

turn_output : (out : Range) (rs : List (RawRecord Range)) → OfFiles 0 rs → IsPart Out out → InTurn 0 (with_output out rs)
unfolding with_output
turn_output out rs each is = by (list_any makes_output rs)
  where
    by : (b : Bool) → InTurn 0 (cond b rs (rs ++ output_record out ∷ []))
    by true = files_in_turn 0 rs each
    by false = push_output 0 rs (output_record out) each is

-- what is asked for by records in turn is so
module _ (login : List ℕ) where
  one_in_turn : (n : ℕ) (t : Result (TaskRecord Range) TaskFailure) (rest : Result (List (TaskRecord Range)) TaskFailure) → IfOk t (λ x. OfRecord (IsPart (File n)) x) → IfOk rest (TasksInTurn (n + 1))
      → IfOk (and_then t (λ x. and_then rest (λ xs. Ok (x ∷ xs)))) (TasksInTurn n)
  one_in_turn n (Err e) rest one others = tt
  one_in_turn n (Ok x) (Err e) one others = tt
  one_in_turn n (Ok x) (Ok xs) one others = inl (one, others)

  last_in_turn : (n : ℕ) (t : Result (TaskRecord Range) TaskFailure) (rest : Result (List (TaskRecord Range)) TaskFailure) → IfOk t (λ x. OfRecord (IsPart Out) x) → rest ≡ Ok []
      → IfOk (and_then t (λ x. and_then rest (λ xs. Ok (x ∷ xs)))) (TasksInTurn n)
  last_in_turn n (Err e) rest one none = tt
  last_in_turn n (Ok x) rest one none = subst (λ (r : Result (List (TaskRecord Range)) TaskFailure). IfOk (and_then r (λ xs. Ok (x ∷ xs))) (TasksInTurn n)) (sym none) (inr (one, refl))

  tasks_in_turn : (n : ℕ) (rs : List (RawRecord Range)) → InTurn n rs → IfOk (task_records login rs) (TasksInTurn n)
  tasks_in_turn n [] each = tt
  tasks_in_turn n (r ∷ rs) (inl each) = one_in_turn n (task_record login r) (task_records login rs) (asked_of (IsPart (File n)) login r.head r.body each.0) (tasks_in_turn (n + 1) rs each.1)
  tasks_in_turn n (r ∷ rs) (inr each) = last_in_turn n (task_record login r) (task_records login rs) (asked_of (IsPart Out) login r.head r.body each.0) (ap (task_records login) each.1)

-- ---- what windows show

head_part : (n : ℕ) (r : Range) (o : Option RecordHead) → IsPart (File n) r → IfSome (option_map (headed r) o) (λ x. IsPart (File n) x.body)
head_part n r None is = tt
head_part n r (Some h) is = is

len_part : (n : ℕ) (w : Window) (o : Option ℕ) → IfSome (option_and_then (record_of (range_in n) w) o) (λ x. IsPart (File n) x.body)
len_part n w None = tt
len_part n w (Some len) = head_part n (range_in n (body_start w len) len) (head_before (body_start w len) len w.front) refl

record_part : (n : ℕ) (w : Window) → IfSome (range_record n w) (λ x. IsPart (File n) x.body)
unfolding record_with
record_part n w = len_part n w (body_len w.end w.len)

more_parts : (n : ℕ) (r : Option (RawRecord Range)) (o : Option (List (RawRecord Range))) → IfSome r (λ x. IsPart (File n) x.body) → IfSome o (OfFiles (n + 1))
    → IfSome (option_and_then (λ x. option_map (λ xs. x ∷ xs) o) r) (OfFiles n)
more_parts n None o one others = tt
more_parts n (Some x) None one others = tt
more_parts n (Some x) (Some xs) one others = (one, others)

shown_parts : (n : ℕ) (ws : List Window) → IfSome (all_records (shown n ws)) (OfFiles n)
unfolding all_records shown
shown_parts n [] = tt
shown_parts n (w ∷ ws) = more_parts n (range_record n w) (all_records (shown (n + 1) ws)) (record_part n w) (shown_parts (n + 1) ws)

with_out : (out : Range) → IsPart Out out → (o : Option (List (RawRecord Range))) → IfSome o (OfFiles 0) → IfSome o (λ rs. InTurn 0 (with_output out rs))
with_out out is None each = tt
with_out out is (Some rs) each = turn_output out rs each is

-- the records of a good fate stand in turn
abbrev GoodInTurn : Fate Range → Type 0
GoodInTurn (Good ts) = TasksInTurn 0 ts
GoodInTurn (Bad failure status stderr) = Unit {0}

fate_in_turn : (j : Judgement) (ws : List Window) → HasSeen j ws → GoodInTurn (fate_of j)
fate_in_turn j ws has =
    by (fate_of j) (judged_list j.login (InTurn 0) (TasksInTurn 0) (tasks_in_turn j.login 0) j.left (output_range j.left) j.records
    (λ told. subst (λ (o : Option (List (RawRecord Range))). IfSome o (λ rs. InTurn 0 (with_output (output_range j.left) rs))) (sym (has.records told))
    (with_out (output_range j.left) refl (all_records (shown 0 ws)) (shown_parts 0 ws))))
  where
    by : (f : Fate Range) → OfList j.login (InTurn 0) (TasksInTurn 0) (tasks_in_turn j.login 0) f → GoodInTurn f
    by (Good ts) each = each
    by (Bad failure status stderr) each = tt

-- ---- the bytes of a part

abbrev Bytes : Type 0
Bytes = List ℕ

abbrev body_of : TaskRecord Bytes → Bytes
body_of (Emit place reducer bytes) = bytes
body_of (Keep place bytes) = bytes
body_of (Ref name) = []

abbrev last_body : List (TaskRecord Bytes) → Bytes
last_body [] = []
last_body (u ∷ []) = body_of u
last_body (u ∷ v ∷ us) = last_body (v ∷ us)

abbrev body_at : Option (TaskRecord Bytes) → Bytes
body_at None = []
body_at (Some u) = body_of u

abbrev bytes_at : List (TaskRecord Bytes) → Part → Bytes
bytes_at all (File n) = body_at (slice_get all n)
bytes_at all Out = last_body all

-- these bytes, where they are as many; else zeros
abbrev fitted : ℕ → Bytes → Bytes
fitted n bytes = cond (length bytes == n) bytes (replicate n 0)

abbrev stored_by : List (TaskRecord Bytes) → Range → Bytes
stored_by all r = fitted r.len (bytes_at all r.part)

fitted_long : (n : ℕ) (bytes : Bytes) → length (fitted n bytes) ≡ n
fitted_long n bytes = by (length bytes == n) refl
  where
    by : (b : Bool) → length bytes == n ≡ b → length (cond b bytes (replicate n 0)) ≡ n
    by true e = eqb-true (length bytes) n e
    by false e = length-replicate {A = ℕ} n 0

fitted_same : (n : ℕ) (bytes : Bytes) → length bytes ≡ n → fitted n bytes ≡ bytes
fitted_same n bytes e = ap (λ b. cond b bytes (replicate n 0)) (eq-eqb (length bytes) n e)

module _ (all : List (TaskRecord Bytes)) where
  stored_same : (p : Part) (r : Range) (bytes : Bytes) → IsPart p r → HasLength r bytes → bytes_at all p ≡ bytes → stored_by all r ≡ bytes
  stored_same p r bytes is long at = ap (λ (q : Part). fitted r.len (bytes_at all q)) is ∙ ap (fitted r.len) at ∙ fitted_same r.len bytes long

  same_record : (p : Part) (t : TaskRecord Range) (u : TaskRecord Bytes) → OfRecord (IsPart p) t → OverRecord HasLength t u → bytes_at all p ≡ body_of u → task_with (stored_by all) t ≡ u
  same_record p (Emit place reducer r) (Emit other given bytes) is over at = λ i. Emit (sym over.0 i) (sym over.1 i) (stored_same p r bytes is over.2 at i)
  same_record p (Emit place reducer r) (Keep other bytes) is over at = absurd over
  same_record p (Emit place reducer r) (Ref other) is over at = absurd over
  same_record p (Keep place r) (Keep other bytes) is over at = λ i. Keep (sym over.0 i) (stored_same p r bytes is over.1 at i)
  same_record p (Keep place r) (Emit other given bytes) is over at = absurd over
  same_record p (Keep place r) (Ref other) is over at = absurd over
  same_record p (Ref name) (Ref other) is over at = λ i. Ref (sym over i)
  same_record p (Ref name) (Emit other given bytes) is over at = absurd over
  same_record p (Ref name) (Keep other bytes) is over at = absurd over

  -- the rest of the records, from a place on
  abbrev Ends : ℕ → List (TaskRecord Bytes) → Type 0
  Ends n us = ((k : ℕ) → slice_get all (n + k) ≡ slice_get us k) × (us ≢ [] → last_body all ≡ last_body us)

  ends_on : (n : ℕ) (u : TaskRecord Bytes) (us : List (TaskRecord Bytes)) → Ends n (u ∷ us) → Ends (n + 1) us
  ends_on n u us ends = (λ k. ap (slice_get all) (after n k) ∙ ends.0 (suc k), last us ends.1)
    where
      after : (n k : ℕ) → n + 1 + k ≡ n + suc k
      after n k = omega arith

      last : (us : List (TaskRecord Bytes)) → (u ∷ us ≢ [] → last_body all ≡ last_body (u ∷ us)) → us ≢ [] → last_body all ≡ last_body us
      last [] is some = absurd (some refl)
      last (v ∷ us) is some = is (λ e. cc)

  first_of : (n : ℕ) (u : TaskRecord Bytes) (us : List (TaskRecord Bytes)) → Ends n (u ∷ us) → bytes_at all (File n) ≡ body_of u
  first_of n u us ends = ap (λ (k : ℕ). body_at (slice_get all k)) (omega arith) ∙ ap body_at (ends.0 0)

  only_of : (n : ℕ) (u : TaskRecord Bytes) (us : List (TaskRecord Bytes)) → us ≡ [] → Ends n (u ∷ us) → bytes_at all Out ≡ body_of u
  only_of n u us none ends = ends.1 (λ e. cc) ∙ ap (λ (l : List (TaskRecord Bytes)). last_body (u ∷ l)) none

  none_over : (us : List (TaskRecord Bytes)) (ts : List (TaskRecord Range)) → ts ≡ [] → AllZip (OverRecord HasLength) ts us → us ≡ []
  none_over us ts none over = by us (subst (λ (l : List (TaskRecord Range)). AllZip (OverRecord HasLength) l us) none over)
    where
      by : (us : List (TaskRecord Bytes)) → AllZip (OverRecord HasLength) [] us → us ≡ []
      by [] over = refl
      by (u ∷ us) over = absurd over

  same_records : (n : ℕ) (ts : List (TaskRecord Range)) (us : List (TaskRecord Bytes)) → AllZip (OverRecord HasLength) ts us → TasksInTurn n ts → Ends n us → map (task_with (stored_by all)) ts ≡ us
  same_records n [] [] over each ends = refl
  same_records n [] (u ∷ us) over each ends = absurd over
  same_records n (t ∷ ts) [] over each ends = absurd over
  same_records n (t ∷ ts) (u ∷ us) over (inl each) ends =
      λ i. same_record (File n) t u each.0 over.0 (first_of n u us ends) i ∷ same_records (n + 1) ts us over.1 each.1 (ends_on n u us ends) i
  same_records n (t ∷ ts) (u ∷ us) over (inr each) ends =
      let none : us ≡ [] = none_over us ts each.1 over.1 in
      λ i. same_record Out t u each.0 over.0 (only_of n u us none ends) i ∷ (ap (map (task_with (stored_by all))) each.1 ∙ sym none) i

-- ---- fates

-- a function of ranges that gives the bodies of a fate
record IsRebuilt (f : Fate Range) (g : Fate Bytes) : Type 0 where
  stored : Range → Bytes
  fits : (r : Range) → length (stored r) ≡ r.len
  same : fate_with stored f ≡ g

rebuilt_by : (all : List (TaskRecord Bytes)) (f : Fate Range) (g : Fate Bytes) → fate_with (stored_by all) f ≡ g → IsRebuilt f g
rebuilt_by all f g same = record { stored = stored_by all; fits = λ r. fitted_long r.len (bytes_at all r.part); same = same }

rebuilt : (f : Fate Range) (g : Fate Bytes) → GoodInTurn f → IsOver HasLength f g → IsRebuilt f g
rebuilt (Good ts) (Good us) each over =
    rebuilt_by us (Good ts) (Good us) (ap (λ (l : List (TaskRecord Bytes)). Good l) (same_records us 0 ts us over each (λ k. ap (slice_get us) (omega arith), λ some. refl)))
rebuilt (Good ts) (Bad failure status stderr) each over = absurd over
rebuilt (Bad failure status stderr) g each over = rebuilt_by [] (Bad failure status stderr) g (sym over)

pub fate_of_stored : FateOfStored
fate_of_stored j ws f has none are over =
    let found = rebuilt (fate_of j) f (fate_in_turn j ws has) over in
    let outcome = fates_of_any_bytes found.stored found.fits j ws has none are in
    record { raw = outcome.raw; left = outcome.left; judged = sym found.same ∙ outcome.judged }
