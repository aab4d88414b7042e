-- A fate over bytes that may have been read for ranges came of an outcome; and how long it is.
use Rattle.std.proofs.Common.{◌≡◌, ◌≤◌, ℕ, ◌+◌, List, [], ◌∷◌, length, map, take, drop, Option, Some, None, refl, sym, ap, ◌∙◌, subst, arith}
use Rattle.std.specs.Prelude.{IfSome, replicate}
use Rattle.std.specs.List.{AllByRecursion, AllZip, sum_by}
use Rattle.std.proofs.lemmas.List.{length-drop, length-replicate, length-take-le}
use Rattle.std.proofs.lemmas.List.Sums.{sum_by-cons}
use Rattle.mt_path.specs.AccountPath.{AccountPath}
use Rattle.mt_types.specs.Values.{fate_with, record_with}
use Rattle.mt_types.specs.declared.body.Body.{Body}
use Rattle.mt_types.specs.declared.task.Fate.{Fate}
use Rattle.mt_types.specs.declared.task.Fate.TheVariants.{Good, Bad}
use Rattle.mt_types.specs.declared.task.Raw.{Raw}
use Rattle.mt_types.specs.declared.task.TaskRecord.{TaskRecord}
use Rattle.mt_types.specs.declared.task.TaskRecord.TheVariants.{Emit, Keep, Ref}
use Rattle.mt_body.specs.Growth.{fate_pieces, record_pieces}
use Rattle.mt_body.specs.Stored.{pieces_size}
use Rattle.mt_model.specs.Bodies.{OfFate, OfRecord}
use Rattle.mt_model.specs.Honest.{Bytes}
use Rattle.mt_records.specs.Fate.{fate}
use Rattle.mt_records.specs.Laws.{HasLength, IsOfRange, IsOver, IsWithin, OverRecord}
use Rattle.mt_records.specs.Seen.{bytes_in}
use Rattle.mt_records.specs.declared.range.Range.{Range}
use Rattle.mt_spawn.specs.Children.{MayBe}
use Rattle.mt_spawn.specs.Orders.{told_of}
use Rattle.mt_spawn.specs.Parts.{part_bytes, size_among}
use Rattle.mt_spawn.specs.declared.task.Left.{Left}
use Rattle.mt_spawn.proofs.PartBytes.{told_size}
use Rattle.mt_tasks.specs.Fates.{IsFateOf}
use Rattle.mt_tasks.specs.Sizes.{blank, fate_size, record_size}
use Rattle.mt_tasks.specs.declared.sizes.TheConstants.{NO_BODY}

-- ---- over bodies that stand so to ranges, and over bodies of a function

module _ (P Q : Range → Bytes → Type 0) (each : (r : Range) (b : Bytes) → P r b → Q r b) where
  record_weaker : (r : TaskRecord Range) (t : TaskRecord Bytes) → OverRecord P r t → OverRecord Q r t
  record_weaker (Emit place reducer r) (Emit other given b) over = (over.0, over.1, each r b over.2)
  record_weaker (Emit place reducer r) (Keep other b) over = absurd over
  record_weaker (Emit place reducer r) (Ref other) over = absurd over
  record_weaker (Keep place r) (Keep other b) over = (over.0, each r b over.1)
  record_weaker (Keep place r) (Emit other given b) over = absurd over
  record_weaker (Keep place r) (Ref other) over = absurd over
  record_weaker (Ref name) (Ref other) over = over
  record_weaker (Ref name) (Emit other given b) over = absurd over
  record_weaker (Ref name) (Keep other b) over = absurd over

  records_weaker : (rs : List (TaskRecord Range)) (ts : List (TaskRecord Bytes)) → AllZip (OverRecord P) rs ts → AllZip (OverRecord Q) rs ts
  records_weaker [] [] over = over
  records_weaker [] (t ∷ ts) over = absurd over
  records_weaker (r ∷ rs) [] over = absurd over
  records_weaker (r ∷ rs) (t ∷ ts) over = (record_weaker r t over.0, records_weaker rs ts over.1)

  pub over_weaker : (f : Fate Range) (g : Fate Bytes) → IsOver P f g → IsOver Q f g
  over_weaker (Good rs) (Good ts) over = records_weaker rs ts over
  over_weaker (Good rs) (Bad failure status stderr) over = absurd over
  over_weaker (Bad failure status stderr) g over = over

module _ (P : Range → Bytes → Type 0) (content : Range → Bytes) where
  record_of : (r : TaskRecord Range) → OfRecord (λ x. P x (content x)) r → OverRecord P r (record_with content r)
  record_of (Emit place reducer r) is = (refl, refl, is)
  record_of (Keep place r) is = (refl, is)
  record_of (Ref name) is = refl

  records_of : (rs : List (TaskRecord Range)) → AllByRecursion (OfRecord (λ x. P x (content x))) rs → AllZip (OverRecord P) rs (map (record_with content) rs)
  records_of [] all = tt
  records_of (r ∷ rs) all = (record_of r all.0, records_of rs all.1)

  -- the bytes of a function
  pub over_with : (f : Fate Range) → OfFate (λ x. P x (content x)) f → IsOver P f (fate_with content f)
  over_with (Good rs) all = records_of rs all
  over_with (Bad failure status stderr) all = refl

-- where each body is what a function gives
module _ (P : Range → Bytes → Type 0) (content : Range → Bytes) (each : (r : Range) (b : Bytes) → P r b → b ≡ content r) where
  record_is : (r : TaskRecord Range) (t : TaskRecord Bytes) → OverRecord P r t → t ≡ record_with content r
  record_is (Emit place reducer r) (Emit other given b) over = λ i. Emit (over.0 i) (over.1 i) (each r b over.2 i)
  record_is (Emit place reducer r) (Keep other b) over = absurd over
  record_is (Emit place reducer r) (Ref other) over = absurd over
  record_is (Keep place r) (Keep other b) over = λ i. Keep (over.0 i) (each r b over.1 i)
  record_is (Keep place r) (Emit other given b) over = absurd over
  record_is (Keep place r) (Ref other) over = absurd over
  record_is (Ref name) (Ref other) over = ap (λ (p : AccountPath). Ref p) over
  record_is (Ref name) (Emit other given b) over = absurd over
  record_is (Ref name) (Keep other b) over = absurd over

  records_are : (rs : List (TaskRecord Range)) (ts : List (TaskRecord Bytes)) → AllZip (OverRecord P) rs ts → ts ≡ map (record_with content) rs
  records_are [] [] over = refl
  records_are [] (t ∷ ts) over = absurd over
  records_are (r ∷ rs) [] over = absurd over
  records_are (r ∷ rs) (t ∷ ts) over = λ i. record_is r t over.0 i ∷ records_are rs ts over.1 i

  pub fate_is : (f : Fate Range) (g : Fate Bytes) → IsOver P f g → g ≡ fate_with content f
  fate_is (Good rs) (Good ts) over = ap (λ (l : List (TaskRecord Bytes)). Good l) (records_are rs ts over)
  fate_is (Good rs) (Bad failure status stderr) over = absurd over
  fate_is (Bad failure status stderr) g over = over

-- ---- where it came from

-- bytes that may have been read for a fate make it one of an outcome that the child may have ended in
pub came_of : (login : Bytes) (left : Left) (told : Option Raw) (may : Raw → Type 0) (f : Fate Range) (g : Fate Bytes) → MayBe may left told → IsFateOf login left told f → IsOver (IsOfRange told) f g
    → (raw : Raw) × may raw × (g ≡ fate login raw)
came_of login left None may f g maybe came over =
    let from = came g (over_weaker (IsOfRange None) HasLength (λ r b is. is.0) f g over) in
    (from.0, maybe from.0 from.1, from.2)
came_of login left (Some raw) may f g maybe came over =
    (raw, maybe.1, fate_is (IsOfRange (Some raw)) (bytes_in raw.made) (λ r b is. is.1) f g over ∙ came)

-- bytes that a range may have
abbrev pub bytes_for : Option Raw → Range → Bytes
bytes_for None r = replicate r.len 0
bytes_for (Some raw) r = bytes_in raw.made r

range_long : (raw : Raw) (r : Range) → IsWithin (told_of raw).made r → length (bytes_in raw.made r) ≡ r.len
range_long raw r within =
    let size : size_among (told_of raw).made r.part ≡ length (part_bytes raw.made r.part) = told_size raw r.part in
    length-take-le r.len (drop r.from (part_bytes raw.made r.part)) (omega (arith, within, size, length-drop r.from (part_bytes raw.made r.part)))

module _ (left : Left) where
  for_range : (told : Option Raw) → ((raw : Raw) → told ≡ Some raw → told_of raw ≡ left) → (r : Range) → IsWithin left.made r → IsOfRange told r (bytes_for told r)
  for_range None law r within = (length-replicate r.len 0, tt)
  for_range (Some raw) law r within = (range_long raw r (subst (λ (l : Left). IsWithin l.made r) (sym (law raw refl)) within), refl)

  for_record : (told : Option Raw) → ((raw : Raw) → told ≡ Some raw → told_of raw ≡ left) → (r : TaskRecord Range) → OfRecord (IsWithin left.made) r → OfRecord (λ x. IsOfRange told x (bytes_for told x)) r
  for_record told law (Emit place reducer r) is = for_range told law r is
  for_record told law (Keep place r) is = for_range told law r is
  for_record told law (Ref name) is = tt

  for_records : (told : Option Raw) → ((raw : Raw) → told ≡ Some raw → told_of raw ≡ left) → (rs : List (TaskRecord Range)) → AllByRecursion (OfRecord (IsWithin left.made)) rs
      → AllByRecursion (OfRecord (λ x. IsOfRange told x (bytes_for told x))) rs
  for_records told law [] all = tt
  for_records told law (r ∷ rs) all = (for_record told law r all.0, for_records told law rs all.1)

  -- a fate has such bytes
  pub some_bytes : (told : Option Raw) → ((raw : Raw) → told ≡ Some raw → told_of raw ≡ left) → (f : Fate Range) → OfFate (IsWithin left.made) f → IsOver (IsOfRange told) f (fate_with (bytes_for told) f)
  some_bytes told law (Good rs) all = over_with (IsOfRange told) (bytes_for told) (Good rs) (for_records told law rs all)
  some_bytes told law (Bad failure status stderr) all = refl

-- ---- how long it is

module _ (P : Range → Bytes → Type 0) where
  -- without bodies it is the same
  blank_one : (r : TaskRecord Range) (t : TaskRecord Bytes) → OverRecord P r t → record_with (λ b. NO_BODY) t ≡ record_with (λ b. NO_BODY) r
  blank_one (Emit place reducer r) (Emit other given b) over = λ i. Emit (over.0 i) (over.1 i) NO_BODY
  blank_one (Emit place reducer r) (Keep other b) over = absurd over
  blank_one (Emit place reducer r) (Ref other) over = absurd over
  blank_one (Keep place r) (Keep other b) over = λ i. Keep (over.0 i) NO_BODY
  blank_one (Keep place r) (Emit other given b) over = absurd over
  blank_one (Keep place r) (Ref other) over = absurd over
  blank_one (Ref name) (Ref other) over = let made : AccountPath → TaskRecord Body = λ p. Ref p in ap made over
  blank_one (Ref name) (Emit other given b) over = absurd over
  blank_one (Ref name) (Keep other b) over = absurd over

  blank_list : (rs : List (TaskRecord Range)) (ts : List (TaskRecord Bytes)) → AllZip (OverRecord P) rs ts → map (record_with (λ b. NO_BODY)) ts ≡ map (record_with (λ b. NO_BODY)) rs
  blank_list [] [] over = refl
  blank_list [] (t ∷ ts) over = absurd over
  blank_list (r ∷ rs) [] over = absurd over
  blank_list (r ∷ rs) (t ∷ ts) over = λ i. blank_one r t over.0 i ∷ blank_list rs ts over.1 i

  pub blank_over : (f : Fate Range) (g : Fate Bytes) → IsOver P f g → blank g ≡ blank f
  blank_over (Good rs) (Good ts) over = ap (λ (l : List (TaskRecord Body)). Good l) (blank_list rs ts over)
  blank_over (Good rs) (Bad failure status stderr) over = absurd over
  blank_over (Bad failure status stderr) g over = ap blank over

-- as long as its ranges say
size_one : (r : TaskRecord Range) (t : TaskRecord Bytes) → OverRecord HasLength r t → record_pieces t ≡ record_size r
size_one (Emit place reducer r) (Emit other given b) over = ap pieces_size over.2
size_one (Emit place reducer r) (Keep other b) over = absurd over
size_one (Emit place reducer r) (Ref other) over = absurd over
size_one (Keep place r) (Keep other b) over = ap pieces_size over.1
size_one (Keep place r) (Emit other given b) over = absurd over
size_one (Keep place r) (Ref other) over = absurd over
size_one (Ref name) (Ref other) over = refl
size_one (Ref name) (Emit other given b) over = absurd over
size_one (Ref name) (Keep other b) over = absurd over

size_list : (rs : List (TaskRecord Range)) (ts : List (TaskRecord Bytes)) → AllZip (OverRecord HasLength) rs ts → sum_by record_pieces ts ≡ sum_by record_size rs
size_list [] [] over = refl
size_list [] (t ∷ ts) over = absurd over
size_list (r ∷ rs) [] over = absurd over
size_list (r ∷ rs) (t ∷ ts) over = sum_by-cons record_pieces t ts ∙ (λ i. size_one r t over.0 i + size_list rs ts over.1 i) ∙ sym (sum_by-cons record_size r rs)

pub size_over : (f : Fate Range) (g : Fate Bytes) → IsOver HasLength f g → fate_pieces g ≡ fate_size f
size_over (Good rs) (Good ts) over = size_list rs ts over
size_over (Good rs) (Bad failure status stderr) over = absurd over
size_over (Bad failure status stderr) g over = ap fate_pieces over
