-- How the bodies of a fate are stored in a run.
use Rattle.std.specs.Prelude.{◌≡◌, ◌==◌, ⊤, ℕ, ◌+◌, true, IsTrue, List, [], ◌∷◌, ◌++◌, map, Option, Some, None, if◌then◌else◌}
use Rattle.std.specs.List.{AllByRecursion, AllZip, sum_by}
use Rattle.mt_disk.specs.Files.{Files}
use Rattle.mt_log.specs.RunState.{RunState}
use Rattle.mt_body.specs.declared.pieces.Storing.{Storing}
use Rattle.mt_body.specs.declared.pieces.Storing.TheVariants as storing
use Rattle.mt_body.specs.Stored.{IsStored, bytes_of, pieces_size}
use Rattle.mt_opening.specs.Current.{EngineState, IsWriting}
use Rattle.mt_opening.specs.History.{History}
use Rattle.mt_engine.specs.Archiving.{MoreIn}
use Rattle.mt_model.specs.Bodies.{OfFate, OfRecord}
use Rattle.mt_model.specs.Honest.{Bytes}
use Rattle.mt_model.specs.State.{State}
use Rattle.mt_records.specs.Laws.{IsOfRange, IsOver, OverRecord}
use Rattle.mt_records.specs.declared.range.Range.{Range}
use Rattle.mt_types.specs.Limits.{is_placed}
use Rattle.mt_types.specs.Values.{fate_with, record_with}
use Rattle.mt_types.specs.declared.body.Body.{Body}
use Rattle.mt_types.specs.declared.task.Fate.{Fate}
use Rattle.mt_types.specs.declared.task.Raw.{Raw}
use Rattle.mt_types.specs.declared.task.TaskRecord.{TaskRecord}
use Rattle.mt_tasks.specs.Sizes.{blank, fate_size, record_size}
use Rattle.mt_tasks.specs.declared.sizes.TheConstants.{NO_BODY}
use Rattle.mt_tasks.specs.declared.stored.Stored.{Stored}
use Rattle.mt_tasks.specs.declared.stored.Stored.TheVariants as stored

-- What became of what was to be stored behind these payloads: it is there, or the run goes on, or the log is closed.
abbrev pub Stores : {T : Type 0} → (T → Type 0) → Stored T → Option Files → EngineState → RunState → State Bytes → History → List (List ℕ) → Type 0
Stores Is (stored.Whole t) seen' engine' run' base h qs = Is t
Stores Is stored.Failed seen' engine' run' base h qs = MoreIn seen' engine' run' base h qs
Stores Is stored.Disk seen' engine' run' base h qs = engine'.log.closed ≡ true
Stores Is stored.Memory seen' engine' run' base h qs = MoreIn seen' engine' run' base h qs

-- what is made of what is there
abbrev pub stored_map : {T U : Type 0} → (T → U) → Stored T → Stored U
stored_map f (stored.Whole t) = stored.Whole (f t)
stored_map f stored.Failed = stored.Failed
stored_map f stored.Disk = stored.Disk
stored_map f stored.Memory = stored.Memory

-- how the storing of a range of so many bytes ends
abbrev pub range_end : Storing → ℕ → Stored Body
range_end (storing.Stored body) len = if body.len == len then stored.Whole body else stored.Memory
range_end storing.Full len = stored.Memory
range_end storing.SourceFault len = stored.Failed
range_end storing.Disk len = stored.Disk
range_end storing.Memory len = stored.Memory

-- how that of records ends behind one that is not kept
abbrev pub records_end : Stored (TaskRecord Body) → Stored (List (TaskRecord Body))
records_end (stored.Whole t) = stored.Memory
records_end stored.Failed = stored.Failed
records_end stored.Disk = stored.Disk
records_end stored.Memory = stored.Memory

-- one record more is kept, or the storing ends
abbrev pub Keeps : Stored (TaskRecord Body) → List (TaskRecord Body) → Option (Stored (List (TaskRecord Body))) → List (TaskRecord Body) → Type 0
Keeps s old None new = (t : TaskRecord Body) × (s ≡ stored.Whole t) × (new ≡ old ++ t ∷ [])
Keeps s old (Some end) new = end ≡ records_end s

-- and over any disk, of what is there
abbrev pub Places : {T : Type 0} → (T → Type 0) → Stored T → Type 0
Places Is (stored.Whole t) = Is t
Places Is other = ⊤

abbrev pub placed : Body → Type 0
placed b = IsTrue (is_placed b)

module _ (told : Option Raw) (seen' : Option Files) (engine' : EngineState) (run' : RunState) (base : State Bytes) (h : History) (qs : List (List ℕ)) where
  -- the bytes of a range are in the run behind the payloads, as a body that reads as they do
  pub record RangeIn (r : Range) (body : Body) : Type 0 where
    pub pieces : List (List ℕ)
    pub writing : IsWriting seen' engine' run' base h (qs ++ pieces)
    pub stands : IsStored (qs ++ pieces) body
    pub reads : IsOfRange told r (bytes_of (qs ++ pieces) body)

  -- and so is the body of a record
  pub record RecordIn (r : TaskRecord Range) (t : TaskRecord Body) : Type 0 where
    pub pieces : List (List ℕ)
    pub writing : IsWriting seen' engine' run' base h (qs ++ pieces)
    pub stands : OfRecord (IsStored (qs ++ pieces)) t
    pub over : OverRecord (IsOfRange told) r (record_with (bytes_of (qs ++ pieces)) t)

  -- those of records
  pub record RecordsIn (rs : List (TaskRecord Range)) (ts : List (TaskRecord Body)) : Type 0 where
    pub pieces : List (List ℕ)
    pub writing : IsWriting seen' engine' run' base h (qs ++ pieces)
    pub stands : AllByRecursion (OfRecord (IsStored (qs ++ pieces))) ts
    pub over : AllZip (OverRecord (IsOfRange told)) rs (map (record_with (bytes_of (qs ++ pieces))) ts)

  -- and those of a fate
  pub record FateIn (f : Fate Range) (t : Fate Body) : Type 0 where
    pub pieces : List (List ℕ)
    pub writing : IsWriting seen' engine' run' base h (qs ++ pieces)
    pub stands : OfFate (IsStored (qs ++ pieces)) t
    pub over : IsOver (IsOfRange told) f (fate_with (bytes_of (qs ++ pieces)) t)

-- Over any disk: how far a run came with a range, a record, records or a fate, and that what was stored is that but for bodies.
module _ (run run' : RunState) where
  abbrev pub RangeAt : Range → Body → Type 0
  RangeAt r body = placed body × (run'.next ≡ run.next + pieces_size r.len)

  abbrev pub RecordAt : TaskRecord Range → TaskRecord Body → Type 0
  RecordAt r t = OfRecord placed t × (record_with (λ b. NO_BODY) t ≡ record_with (λ b. NO_BODY) r) × (run'.next ≡ run.next + record_size r)

  abbrev pub RecordsAt : List (TaskRecord Range) → List (TaskRecord Body) → Type 0
  RecordsAt rs ts = AllByRecursion (OfRecord placed) ts × (map (record_with (λ b. NO_BODY)) ts ≡ map (record_with (λ b. NO_BODY)) rs) × (run'.next ≡ run.next + sum_by record_size rs)

  abbrev pub FateAt : Fate Range → Fate Body → Type 0
  FateAt f t = OfFate placed t × (blank t ≡ blank f) × (run'.next ≡ run.next + fate_size f)
