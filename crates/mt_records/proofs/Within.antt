-- Ranges lie within what was left.
use Rattle.std.proofs.Common.{◌≡◌, ℕ, suc, ◌+◌, Bool, true, false, cond, ltb, List, [], ◌∷◌, ◌++◌, length, Option, Some, None, Result, Ok, Err, refl, sym, ap, subst, ◌∙◌, arith}
use Rattle.std.specs.Prelude.{IfOk, IfSome, option_map, option_and_then}
use Rattle.std.specs.List.{AllByRecursion, list_any, slice_get}
use Rattle.std.specs.Option.{ok_or}
use Rattle.mt_path.specs.AccountPath.{AccountPath}
use Rattle.mt_types.specs.declared.limits.TheConstants.{MOST_RECORDS}
use Rattle.mt_types.specs.declared.task.TaskFailure.{TaskFailure}
use Rattle.mt_types.specs.declared.task.TaskFailure.TheVariants.{TaskRecordError, TaskPlaceRefused, TaskObjectMissing}
use Rattle.mt_types.specs.declared.task.TaskRecord.{TaskRecord}
use Rattle.mt_types.specs.declared.task.TaskRecord.TheVariants as task
use Rattle.mt_model.specs.Bodies.{OfFate, OfRecord}
use Rattle.mt_spawn.specs.Parts.{file_size, size_among}
use Rattle.mt_spawn.specs.declared.task.FileSize.{FileSize}
use Rattle.mt_spawn.specs.declared.task.Left.{Left}
use Rattle.mt_spawn.specs.declared.task.Part.TheVariants as part
use Rattle.mt_spawn.specs.declared.task.Sizes.{Sizes}
use Rattle.mt_spawn.specs.declared.task.Sizes.TheVariants as sizes
use Rattle.mt_records.specs.declared.head.RecordHead.{RecordHead}
use Rattle.mt_records.specs.declared.head.RecordHead.TheVariants as head
use Rattle.mt_records.specs.declared.range.Range.{Range}
use Rattle.mt_records.specs.declared.record.RawRecord.{RawRecord}
use Rattle.mt_records.specs.Fate.{all_records, and_then, asked, asked_by, fate_from, fate_unless, judged, makes_output, output_record, path_in, task_record, task_records, told_failure, with_output}
use Rattle.mt_records.specs.Laws.{IsWithin}
use Rattle.mt_records.specs.Seen.{AreWindows, HasSeen, Judgement, fate_of, output_range, range_in, range_record, shown, sizes_in}
use Rattle.mt_records.specs.Windows.{Window, body_len, body_start, head_before, headed, record_of, record_with}
use Rattle.mt_records.proofs.Ends.{some_len}

-- ---- what stands for bodies keeps what it keeps

module _ {B : Type 0} (P : B → Type 0) where
  -- of the body of a record
  abbrev pub OfBody : RawRecord B → Type 0
  OfBody r = P r.body

  abbrev pub OfOption : Option (RawRecord B) → Type 0
  OfOption o = IfSome o OfBody

  pub all_of : (rs : List (Option (RawRecord B))) → AllByRecursion OfOption rs → IfSome (all_records rs) (λ all. AllByRecursion OfBody all)
  unfolding all_records
  all_of [] each = tt
  all_of (r ∷ rs) each = more r (all_records rs) each.0 (all_of rs each.1)
    where
      more : (r : Option (RawRecord B)) (o : Option (List (RawRecord B))) → OfOption r → IfSome o (λ all. AllByRecursion OfBody all)
          → IfSome (option_and_then (λ x. option_map (λ xs. x ∷ xs) o) r) (λ all. AllByRecursion OfBody all)
      more None o one others = tt
      more (Some x) None one others = tt
      more (Some x) (Some xs) one others = (one, others)

  push_of : (rs : List (RawRecord B)) (r : RawRecord B) → AllByRecursion OfBody rs → OfBody r → AllByRecursion OfBody (rs ++ r ∷ [])
  push_of [] r each one = (one, tt)
  push_of (q ∷ rs) r each one = (each.0, push_of rs r each.1 one)

  cond_of : (b : Bool) (xs ys : List (RawRecord B)) → AllByRecursion OfBody xs → AllByRecursion OfBody ys → AllByRecursion OfBody (cond b xs ys)
  cond_of true xs ys one other = one
  cond_of false xs ys one other = other

  output_of : (out : B) (rs : List (RawRecord B)) → P out → AllByRecursion OfBody rs → AllByRecursion OfBody (with_output out rs)
  unfolding with_output
  output_of out rs one each = cond_of (list_any makes_output rs) rs (rs ++ output_record out ∷ []) each (push_of rs (output_record out) each one)

  module _ (login : List ℕ) where
    named_of : (o : Option AccountPath) (make : AccountPath → TaskRecord B) (e : TaskFailure) → ((p : AccountPath) → OfRecord P (make p)) → IfOk (ok_or (option_map make o) e) (λ t. OfRecord P t)
    named_of None make e each = tt
    named_of (Some p) make e each = each p

    pub asked_of : (h : RecordHead) (body : B) → P body → IfOk (asked login h body) (λ t. OfRecord P t)
    asked_of (head.Emit None reducer) body is = is
    asked_of (head.Emit (Some text) reducer) body is = named_of (path_in login text) (λ p. task.Emit (Some p) reducer body) TaskPlaceRefused (λ p. is)
    asked_of (head.Keep text) body is = named_of (path_in login text) (λ p. task.Keep p body) TaskPlaceRefused (λ p. is)
    asked_of (head.Ref text) body is = named_of (path_in login text) (λ p. task.Ref p) TaskObjectMissing (λ p. tt)

    abbrev AllOf : List (TaskRecord B) → Type 0
    AllOf ts = AllByRecursion (λ t. OfRecord P t) ts

    one_more : (t : Result (TaskRecord B) TaskFailure) (rest : Result (List (TaskRecord B)) TaskFailure) → IfOk t (λ x. OfRecord P x) → IfOk rest AllOf
        → IfOk (and_then t (λ x. and_then rest (λ xs. Ok (x ∷ xs)))) AllOf
    one_more (Err e) rest one others = tt
    one_more (Ok x) (Err e) one others = tt
    one_more (Ok x) (Ok xs) one others = (one, others)

    tasks_of : (rs : List (RawRecord B)) → AllByRecursion OfBody rs → IfOk (task_records login rs) AllOf
    tasks_of [] each = tt
    tasks_of (r ∷ rs) each = one_more (task_record login r) (task_records login rs) (asked_of r.head r.body each.0) (tasks_of rs each.1)

    few_of : (b : Bool) (r : Result (List (TaskRecord B)) TaskFailure) → IfOk r AllOf → IfOk (cond b (Err TaskRecordError) r) AllOf
    few_of true r all = tt
    few_of false r all = all

    asked_by_of : (out : B) (o : Option (List (RawRecord B))) → P out → IfSome o (λ all. AllByRecursion OfBody all) → IfOk (asked_by login out o) AllOf
    asked_by_of out None one each = tt
    asked_by_of out (Some rs) one each = few_of (ltb MOST_RECORDS (length (with_output out rs))) (task_records login (with_output out rs)) (tasks_of (with_output out rs) (output_of out rs one each))

    from_of : (left : Left) (r : Result (List (TaskRecord B)) TaskFailure) → IfOk r AllOf → OfFate P (fate_from left r)
    from_of left (Ok ts) all = all
    from_of left (Err e) all = tt

    unless_of : (left : Left) (t : Option TaskFailure) (r : Result (List (TaskRecord B)) TaskFailure) → (t ≡ None → IfOk r AllOf) → OfFate P (fate_unless left t r)
    unless_of left None r all = from_of left r (all refl)
    unless_of left (Some e) r all = tt

    pub judged_of : (left : Left) (out : B) (o : Option (List (RawRecord B))) → P out → (told_failure left ≡ None → IfSome o (λ all. AllByRecursion OfBody all)) → OfFate P (judged login left out o)
    unfolding judged
    judged_of left out o one each = unless_of left (told_failure left) (asked_by login out o) (λ told. asked_by_of out o one (each told))

-- ---- ranges

-- the sizes of the files from a place on are these
abbrev SizesAt : Sizes → ℕ → List FileSize → Type 0
SizesAt s k files = (i : ℕ) → size_among s (part.File (k + i)) ≡ file_size (slice_get files i)

first_size : (s : Sizes) (k : ℕ) (f : FileSize) (files : List FileSize) → SizesAt s k (f ∷ files) → size_among s (part.File k) ≡ f.len
first_size s k f files sized = ap (λ (n : ℕ). size_among s (part.File n)) (omega arith) ∙ sized 0

other_sizes : (s : Sizes) (k : ℕ) (f : FileSize) (files : List FileSize) → SizesAt s k (f ∷ files) → SizesAt s (k + 1) files
other_sizes s k f files sized i = ap (λ (n : ℕ). size_among s (part.File n)) (omega arith) ∙ sized (suc i)

all_sized : (s : Sizes) → SizesAt s 0 (sizes_in s)
all_sized (sizes.Whole out files) i = ap (λ (n : ℕ). file_size (slice_get files n)) (omega arith)
all_sized (sizes.TooLarge total) i = refl

module _ (s : Sizes) where
  head_within : (r : Range) (o : Option RecordHead) → IsWithin s r → OfOption (IsWithin s) (option_map (headed r) o)
  head_within r None is = tt
  head_within r (Some h) is = is

  len_within : (k : ℕ) (w : Window) → size_among s (part.File k) ≡ w.len → (o : Option ℕ) → body_len w.end w.len ≡ o → OfOption (IsWithin s) (option_and_then (record_of (range_in k) w) o)
  len_within k w size None e = tt
  len_within k w size (Some n) e =
      let says = some_len w.end w.len n e in
      head_within (range_in k (body_start w n) n) (head_before (body_start w n) n w.front) (omega (arith, size, says.room, says.long))

  record_within : (k : ℕ) (w : Window) → size_among s (part.File k) ≡ w.len → OfOption (IsWithin s) (range_record k w)
  unfolding record_with
  record_within k w size = len_within k w size (body_len w.end w.len) refl

  shown_within : (k : ℕ) (files : List FileSize) (ws : List Window) → SizesAt s k files → AreWindows files ws → AllByRecursion (OfOption (IsWithin s)) (shown k ws)
  unfolding shown
  shown_within k files [] sized are = tt
  shown_within k [] (w ∷ ws) sized are = absurd are
  shown_within k (f ∷ files) (w ∷ ws) sized are =
      (record_within k w (first_size s k f files sized ∙ sym are.0.len), shown_within (k + 1) files ws (other_sizes s k f files sized) are.1)

pub ranges_are_within : (j : Judgement) (ws : List Window) → HasSeen j ws → AreWindows (sizes_in j.left.made) ws → OfFate (IsWithin j.left.made) (fate_of j)
ranges_are_within j ws has are =
    let s : Sizes = j.left.made in
    let out : IsWithin s (output_range j.left) = omega arith in
    judged_of (IsWithin s) j.login j.left (output_range j.left) j.records out
    (λ told. subst (λ (o : Option (List (RawRecord Range))). IfSome o (λ all. AllByRecursion (OfBody (IsWithin s)) all)) (sym (has.records told))
    (all_of (IsWithin s) (shown 0 ws) (shown_within s 0 (sizes_in s) ws (all_sized s) are)))
