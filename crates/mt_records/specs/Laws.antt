-- What holds of records and fates.
use Rattle.std.specs.Prelude.{◌≡◌, ◌↔◌, ℕ, ◌+◌, ◌≤◌, List, ◌∷◌, ◌++◌, [], length, Option, Some, None, Ok, Err, IfSome}
use Rattle.std.specs.List.{AllByRecursion, AllZip}
use Rattle.mt_types.specs.Values.{fate_with}
use Rattle.mt_types.specs.WellMade.{IsWellMadeFate}
use Rattle.mt_types.specs.declared.task.Fate.{Fate}
use Rattle.mt_types.specs.declared.task.Fate.TheVariants.{Good, Bad}
use Rattle.mt_types.specs.declared.task.Raw.{Raw}
use Rattle.mt_types.specs.declared.task.TaskRecord.{TaskRecord}
use Rattle.mt_types.specs.declared.task.TaskRecord.TheVariants.{Emit, Keep, Ref}
use Rattle.mt_model.specs.Bodies.{OfFate}
use Rattle.mt_model.specs.Keeping.{IsSaidFate}
use Rattle.mt_spawn.specs.Orders.{told_of}
use Rattle.mt_spawn.specs.Parts.{size_among}
use Rattle.mt_spawn.specs.declared.task.FileSize.{FileSize}
use Rattle.mt_spawn.specs.declared.task.Left.{Left}
use Rattle.mt_spawn.specs.declared.task.Sizes.{Sizes}
use Rattle.mt_records.specs.declared.error.RecordError.TheVariants.{Torn}
use Rattle.mt_records.specs.declared.range.Range.{Range}
use Rattle.mt_records.specs.Fate.{fate, files_of}
use Rattle.mt_records.specs.Records.{AreBytes, IsRecord, IsTorn, Record, decoded, record_bytes}
use Rattle.mt_records.specs.Seen.{AreWindows, HasSeen, Judgement, after_file, begun, bytes_in, fate_of, next_file, sizes_in}
use Rattle.mt_records.specs.Windows.{AreSeen, Window}

-- what is written is read again
abbrev pub WrittenIsRead : Type 0
WrittenIsRead = (r : Record) → IsRecord r → decoded (record_bytes r) ≡ Ok r

-- and nothing else is
abbrev pub ReadIsWritten : Type 0
ReadIsWritten = (bytes : List ℕ) (r : Record) → AreBytes bytes → decoded bytes ≡ Ok r → (record_bytes r ≡ bytes) × IsRecord r

-- a file is refused as torn exactly where it is; as malformed only where it isn't
abbrev pub TornIsTorn : Type 0
TornIsTorn = (bytes : List ℕ) → AreBytes bytes → (decoded bytes ≡ Err Torn) ↔ IsTorn bytes

-- the windows of an outcome, one a file, give its fate: the fate over ranges is the fate over the bytes of these
abbrev pub FateOfWindows : Type 0
FateOfWindows = (j : Judgement) (ws : List Window) (raw : Raw) → HasSeen j ws → next_file j ≡ None → told_of raw ≡ j.left
    → AreSeen ws (files_of raw.made) → fate_with (bytes_in raw.made) (fate_of j) ≡ fate j.login raw

-- before the first file no window was seen
abbrev pub NoneSeen : Type 0
NoneSeen = (login : List ℕ) (left : Left) → HasSeen (begun login left) []

-- one window more
abbrev pub WindowsInTurn : Type 0
WindowsInTurn = (j : Judgement) (ws : List Window) (size : FileSize) (w : Window) → HasSeen j ws → next_file j ≡ Some size
    → HasSeen (after_file j w) (ws ++ w ∷ [])

-- the bytes of a range are there
abbrev pub IsWithin : Sizes → Range → Type 0
IsWithin made r = r.from + r.len ≤ size_among made r.part

-- the ranges of a fate lie within what was left
abbrev pub RangesAreWithin : Type 0
RangesAreWithin = (j : Judgement) (ws : List Window) → HasSeen j ws → AreWindows (sizes_in j.left.made) ws → OfFate (IsWithin j.left.made) (fate_of j)

-- a fate has at most 4,095 records, and their places and names are paths
abbrev pub FatesAreWellMade : Type 0
FatesAreWellMade = (login : List ℕ) (raw : Raw) → IsWellMadeFate (fate login raw)

-- so is the fate over ranges
abbrev pub RangedIsWellMade : Type 0
RangedIsWellMade = (j : Judgement) → IsWellMadeFate (fate_of j)

-- and where the fronts that were seen are bytes, its numbers have their bytes, and its standard error is a front
abbrev pub RangedIsSaid : Type 0
RangedIsSaid = (j : Judgement) (ws : List Window) → HasSeen j ws → AllByRecursion (λ w. AreBytes w.front) ws → IsSaidFate (fate_of j)

-- ---- the same fate over other bodies, which stand to those of before as P says

module _ (P : Range → List ℕ → Type 0) where
  abbrev pub OverRecord : TaskRecord Range → TaskRecord (List ℕ) → Type 0
  OverRecord (Emit place reducer r) (Emit other given bytes) = (other ≡ place) × (given ≡ reducer) × P r bytes
  OverRecord (Keep place r) (Keep other bytes) = (other ≡ place) × P r bytes
  OverRecord (Ref name) (Ref other) = other ≡ name
  OverRecord _ _ = ⊥

  abbrev pub IsOver : Fate Range → Fate (List ℕ) → Type 0
  IsOver (Good rs) (Good ts) = AllZip OverRecord rs ts
  IsOver (Bad failure status stderr) f = f ≡ Bad failure status stderr
  IsOver (Good rs) (Bad failure status stderr) = ⊥

-- as many bytes as the range names
abbrev pub HasLength : Range → List ℕ → Type 0
HasLength r bytes = length bytes ≡ r.len

-- and those of the range, where the outcome is told
abbrev pub IsOfRange : Option Raw → Range → List ℕ → Type 0
IsOfRange told r bytes = HasLength r bytes × IfSome told (λ raw. bytes ≡ bytes_in raw.made r)

-- a fate over bytes of these lengths is as well made, and says as little, as the one over ranges
abbrev pub OverIsWellMade : Type 0
OverIsWellMade = (f : Fate Range) (g : Fate (List ℕ)) → IsOver HasLength f g → IsWellMadeFate f → IsWellMadeFate g

abbrev pub OverIsSaid : Type 0
OverIsSaid = (f : Fate Range) (g : Fate (List ℕ)) → IsOver HasLength f g → IsSaidFate f → IsSaidFate g

-- whatever was seen and whatever is read later, an outcome of the sizes that were told has this fate
pub record HasOutcome (j : Judgement) (stored : Range → List ℕ) : Type 0 where
  pub raw : Raw
  pub left : told_of raw ≡ j.left
  pub judged : fate_with stored (fate_of j) ≡ fate j.login raw

abbrev pub FateOfAnyBytes : Type 0
FateOfAnyBytes = (j : Judgement) (ws : List Window) (stored : Range → List ℕ) → HasSeen j ws → next_file j ≡ None
    → AreWindows (sizes_in j.left.made) ws → ((r : Range) → length (stored r) ≡ r.len) → HasOutcome j stored

-- an outcome of the sizes that were told has this fate
pub record IsFateOf (j : Judgement) (f : Fate (List ℕ)) : Type 0 where
  pub raw : Raw
  pub left : told_of raw ≡ j.left
  pub judged : f ≡ fate j.login raw

-- Whatever bytes are read, for each record as many as its range names: a fate over these is the fate of such an outcome. Bytes of two reads
-- of one range need not be one, so these are no function of ranges.
abbrev pub FateOfStored : Type 0
FateOfStored = (j : Judgement) (ws : List Window) (f : Fate (List ℕ)) → HasSeen j ws → next_file j ≡ None → AreWindows (sizes_in j.left.made) ws
    → IsOver HasLength (fate_of j) f → IsFateOf j f
