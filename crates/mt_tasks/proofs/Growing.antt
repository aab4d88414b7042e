-- The bodies of records are stored one behind another.
use Rattle.std.proofs.Common.{◌≡◌, ◌≤◌, ℕ, ◌+◌, ◌-◌, min, List, [], ◌∷◌, ◌++◌, length, map, take, drop, Option, Some, None, option_map, refl, sym, ap, ◌∙◌, subst, arith, append_assoc, append-nil}
use Rattle.std.specs.Prelude.{IfSome}
use Rattle.std.specs.List.{AllByRecursion, AllZip, sum_by}
use Rattle.std.proofs.lemmas.List.{length-take, map-append}
use Rattle.std.proofs.lemmas.List.Sums.{sum_by_push}
use Rattle.std.proofs.lemmas.Option.{same_Some}
use Rattle.mt_disk.specs.Files.{Files}
use Rattle.mt_edge.specs.Stream.{LeftAfter}
use Rattle.mt_log.specs.RunState.{RunState}
use Rattle.mt_body.specs.Filling.{AtEnd}
use Rattle.mt_body.specs.Stored.{IsStored, bytes_of}
use Rattle.mt_body.proofs.Keeping.{keeps}
use Rattle.mt_opening.specs.Current.{EngineState, IsWriting}
use Rattle.mt_opening.specs.History.{History}
use Rattle.mt_engine.specs.Archiving.{MoreIn}
use Rattle.mt_model.specs.Bodies.{OfRecord}
use Rattle.mt_model.specs.Honest.{Bytes}
use Rattle.mt_model.specs.State.{State}
use Rattle.mt_records.specs.Laws.{IsOfRange, OverRecord}
use Rattle.mt_records.specs.Seen.{bytes_in}
use Rattle.mt_records.specs.declared.range.Range.{Range}
use Rattle.mt_spawn.specs.Parts.{part_bytes, told_between}
use Rattle.mt_spawn.specs.declared.task.Part.{Part}
use Rattle.mt_types.specs.Values.{record_with}
use Rattle.mt_types.specs.declared.body.Body.{Body}
use Rattle.mt_types.specs.declared.task.Raw.{Raw}
use Rattle.mt_types.specs.declared.task.TaskRecord.{TaskRecord}
use Rattle.mt_types.specs.declared.task.TaskRecord.TheVariants.{Emit, Keep, Ref}
use Rattle.mt_tasks.specs.Sizes.{record_size}
use Rattle.mt_tasks.specs.Storing.{RecordAt, RecordIn, RecordsAt, RecordsIn, placed}
use Rattle.mt_tasks.specs.declared.sizes.TheConstants.{NO_BODY}

-- ---- a range

-- a front as long as the list that it is cut from says is a longer front
same_front : (k n : ℕ) (xs : List ℕ) → length (take k xs) ≡ n → k ≤ n → take k xs ≡ take n xs
same_front k n xs long less =
    let same : k ≡ n = omega (arith, long, less, length-take k xs) in
    ap (λ (m : ℕ). take m xs) same

all_read : (x bytes : List ℕ) (left' : Option (List ℕ)) → Some x ≡ option_map (λ rest. bytes ++ rest) left' → AtEnd left' → bytes ≡ x
all_read x bytes None took ended = cc
all_read x bytes (Some rest) took ended =
    let is : x ≡ bytes ++ rest = same_Some _ _ took in
    sym (is ∙ ap (λ (l : List ℕ). bytes ++ l) ended ∙ append-nil bytes)

-- what was read of a range, as many bytes as it names, is of the range
pub range_read : (told : Option Raw) (r : Range) (end : ℕ) (bytes : Bytes) (left' : Option (List ℕ)) → end ≤ r.from + r.len → LeftAfter (told_between told r.part r.from end) bytes left' → AtEnd left' → length bytes ≡ r.len → IsOfRange told r bytes
range_read None r end bytes left' few took ended long = (long, tt)
range_read (Some raw) r end bytes left' few took ended long =
    let part : List ℕ = drop r.from (part_bytes raw.made r.part) in
    let is : bytes ≡ take (end - r.from) part = all_read (take (end - r.from) part) bytes left' took ended in
    (long, is ∙ same_front (end - r.from) r.len part (ap (λ (l : List ℕ). length l) (sym is) ∙ long) (omega (arith, few)))

-- ---- records

module _ {X Y : Type 0} (R : X → Y → Type 0) where
  push_zip : (xs : List X) (ys : List Y) (x : X) (y : Y) → AllZip R xs ys → R x y → AllZip R (xs ++ x ∷ []) (ys ++ y ∷ [])
  push_zip [] [] x y all one = (one, tt)
  push_zip [] (b ∷ ys) x y all one = absurd all
  push_zip (a ∷ xs) [] x y all one = absurd all
  push_zip (a ∷ xs) (b ∷ ys) x y all one = (all.0, push_zip xs ys x y all.1 one)

module _ {X : Type 0} (P : X → Type 0) where
  push_each : (xs : List X) (x : X) → AllByRecursion P xs → P x → AllByRecursion P (xs ++ x ∷ [])
  push_each [] x all one = (one, tt)
  push_each (y ∷ xs) x all one = (all.0, push_each xs x all.1 one)

module _ (ps qs : List (List ℕ)) where
  -- a record whose body stands keeps it, and its bytes
  record_stays : (t : TaskRecord Body) → OfRecord (IsStored ps) t → OfRecord (IsStored (ps ++ qs)) t
  record_stays (Emit place reducer body) is = (keeps ps qs).kept body is
  record_stays (Keep place body) is = (keeps ps qs).kept body is
  record_stays (Ref name) is = tt

  record_same : (t : TaskRecord Body) → OfRecord (IsStored ps) t → record_with (bytes_of (ps ++ qs)) t ≡ record_with (bytes_of ps) t
  record_same (Emit place reducer body) is = ap (λ (b : Bytes). Emit place reducer b) ((keeps ps qs).same body is)
  record_same (Keep place body) is = ap (λ (b : Bytes). Keep place b) ((keeps ps qs).same body is)
  record_same (Ref name) is = refl

  records_stay : (ts : List (TaskRecord Body)) → AllByRecursion (OfRecord (IsStored ps)) ts → AllByRecursion (OfRecord (IsStored (ps ++ qs))) ts
  records_stay [] all = tt
  records_stay (t ∷ ts) all = (record_stays t all.0, records_stay ts all.1)

  records_same : (ts : List (TaskRecord Body)) → AllByRecursion (OfRecord (IsStored ps)) ts → map (record_with (bytes_of (ps ++ qs))) ts ≡ map (record_with (bytes_of ps)) ts
  records_same [] all = refl
  records_same (t ∷ ts) all = λ i. record_same t all.0 i ∷ records_same ts all.1 i

-- no record is stored yet
pub records_none : (told : Option Raw) (seen : Option Files) (engine : EngineState) (run : RunState) (base : State Bytes) (h : History) (qs : List (List ℕ)) → IsWriting seen engine run base h qs → RecordsIn told seen engine run base h qs [] []
records_none told seen engine run base h qs w = record {
  pieces = [];
  writing = subst (λ (x : List (List ℕ)). IsWriting seen engine run base h x) (sym (append-nil qs)) w;
  stands = tt;
  over = tt;
}

-- one more is
pub records_more : (told : Option Raw) (seen seen' : Option Files) (engine engine' : EngineState) (run run' : RunState) (base : State Bytes) (h : History) (qs : List (List ℕ)) (rs : List (TaskRecord Range)) (ts : List (TaskRecord Body))
    (r : TaskRecord Range) (t : TaskRecord Body) → (first : RecordsIn told seen engine run base h qs rs ts) → RecordIn told seen' engine' run' base h (qs ++ first.pieces) r t → RecordsIn told seen' engine' run' base h qs (rs ++ r ∷ []) (ts ++ t ∷ [])
records_more told seen seen' engine engine' run run' base h qs rs ts r t first second =
    let before = qs ++ first.pieces in
    let all = before ++ second.pieces in
    let same : all ≡ qs ++ (first.pieces ++ second.pieces) = append_assoc qs first.pieces second.pieces in
    let stands : AllByRecursion (OfRecord (IsStored all)) (ts ++ t ∷ []) = push_each (OfRecord (IsStored all)) ts t (records_stay before second.pieces ts first.stands) second.stands in
    let over : AllZip (OverRecord (IsOfRange told)) (rs ++ r ∷ []) (map (record_with (bytes_of all)) (ts ++ t ∷ [])) =
    subst (λ (l : List (TaskRecord Bytes)). AllZip (OverRecord (IsOfRange told)) (rs ++ r ∷ []) l) (sym (map-append (record_with (bytes_of all)) ts (t ∷ [])))
    (push_zip (OverRecord (IsOfRange told)) rs (map (record_with (bytes_of all)) ts) r (record_with (bytes_of all) t)
    (subst (λ (l : List (TaskRecord Bytes)). AllZip (OverRecord (IsOfRange told)) rs l) (sym (records_same before second.pieces ts first.stands)) first.over) second.over) in
    record {
      pieces = first.pieces ++ second.pieces;
      writing = subst (λ (x : List (List ℕ)). IsWriting seen' engine' run' base h x) same second.writing;
      stands = subst (λ (x : List (List ℕ)). AllByRecursion (OfRecord (IsStored x)) (ts ++ t ∷ [])) same stands;
      over = subst (λ (x : List (List ℕ)). AllZip (OverRecord (IsOfRange told)) (rs ++ r ∷ []) (map (record_with (bytes_of x)) (ts ++ t ∷ []))) same over;
    }

-- a run that goes on behind records goes on
pub more_behind : (seen' : Option Files) (engine' : EngineState) (run' : RunState) (base : State Bytes) (h : History) (qs pieces : List (List ℕ)) → MoreIn seen' engine' run' base h (qs ++ pieces) → MoreIn seen' engine' run' base h qs
more_behind seen' engine' run' base h qs pieces m = record {
  pieces = pieces ++ m.pieces;
  writing = subst (λ (x : List (List ℕ)). IsWriting seen' engine' run' base h x) (append_assoc qs pieces m.pieces) m.writing;
}

pub more_none : (seen : Option Files) (engine : EngineState) (run : RunState) (base : State Bytes) (h : History) (qs : List (List ℕ)) → IsWriting seen engine run base h qs → MoreIn seen engine run base h qs
more_none seen engine run base h qs w = record { pieces = []; writing = subst (λ (x : List (List ℕ)). IsWriting seen engine run base h x) (sym (append-nil qs)) w }

-- how far the run came
pub at_none : (run : RunState) → RecordsAt run run [] []
at_none run = (tt, refl, omega arith)

pub at_more : (run run' run'' : RunState) (rs : List (TaskRecord Range)) (ts : List (TaskRecord Body)) (r : TaskRecord Range) (t : TaskRecord Body) → RecordsAt run run' rs ts → RecordAt run' run'' r t → RecordsAt run run'' (rs ++ r ∷ []) (ts ++ t ∷ [])
at_more run run' run'' rs ts r t first second = (
  push_each (OfRecord placed) ts t first.0 second.0,
  map-append (record_with (λ b. NO_BODY)) ts (t ∷ []) ∙ (λ i. first.1 i ++ second.1 i ∷ []) ∙ sym (map-append (record_with (λ b. NO_BODY)) rs (r ∷ [])),
  omega (arith, first.2, second.2, sum_by_push record_size rs r),
)
