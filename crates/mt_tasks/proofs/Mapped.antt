-- What became of what was to be stored, by the answers of the calls.
use Rattle.std.proofs.Common.{◌≡◌, ◌≢◌, ◌≤◌, ◌==◌, ℕ, ◌+◌, Bool, true, false, cond, IsTrue, List, [], ◌∷◌, ◌++◌, length, map, Option, Some, None, refl, sym, ap, ◌∙◌, subst, arith}
use Rattle.std.proofs.lemmas.Bool.{eqb-true}
use Rattle.std.specs.List.{AllByRecursion}
use Rattle.md5.specs.declared.Md5.{Md5}
use Rattle.mt_disk.specs.Files.{Files}
use Rattle.mt_log.specs.LogState.{LogState}
use Rattle.mt_log.specs.RunState.{RunState}
use Rattle.mt_body.specs.Stored.{IsStored, bytes_of, pieces_size}
use Rattle.mt_body.specs.Storing.{Stores as BodyStores}
use Rattle.mt_body.specs.declared.pieces.Storing.{Storing}
use Rattle.mt_body.specs.declared.pieces.Storing.TheVariants as storing
use Rattle.mt_opening.specs.Current.{EngineState, IsWriting}
use Rattle.mt_opening.specs.History.{History}
use Rattle.mt_engine.specs.Accepting.{StoresBody}
use Rattle.mt_engine.specs.Archiving.{MoreIn}
use Rattle.mt_model.specs.Honest.{Bytes}
use Rattle.mt_model.specs.State.{State}
use Rattle.mt_records.specs.Laws.{IsOfRange}
use Rattle.mt_records.specs.declared.range.Range.{Range}
use Rattle.mt_path.specs.AccountPath.{AccountPath}
use Rattle.mt_spawn.specs.Parts.{told_between}
use Rattle.mt_types.specs.declared.body.Body.{Body}
use Rattle.mt_types.specs.declared.task.Fate.{Fate}
use Rattle.mt_types.specs.declared.task.Fate.TheVariants.{Good, Bad}
use Rattle.mt_types.specs.declared.task.Raw.{Raw}
use Rattle.mt_types.specs.declared.task.TaskRecord.{TaskRecord}
use Rattle.mt_types.specs.declared.task.TaskRecord.TheVariants.{Emit, Keep, Ref}
use Rattle.mt_tasks.specs.Sizes.{record_size}
use Rattle.mt_tasks.specs.Storing.{FateAt, FateIn, Places, RangeAt, RangeIn, RecordAt, RecordIn, RecordsAt, RecordsIn, Stores, range_end, records_end, stored_map}
use Rattle.mt_tasks.specs.declared.stored.Stored.{Stored}
use Rattle.mt_tasks.specs.declared.stored.Stored.TheVariants as stored
use Rattle.mt_tasks.proofs.Growing.{more_behind, more_none, range_read}

-- ---- what is made of what is there

module _ {T U : Type 0} (f : T → U) where
  pub disk_map : (s : Stored T) → stored_map f s ≡ stored.Disk → s ≡ stored.Disk
  disk_map (stored.Whole t) is = cc
  disk_map stored.Failed is = cc
  disk_map stored.Disk is = refl
  disk_map stored.Memory is = cc

  pub failed_map : (s : Stored T) → stored_map f s ≡ stored.Failed → s ≡ stored.Failed
  failed_map (stored.Whole t) is = cc
  failed_map stored.Failed is = refl
  failed_map stored.Disk is = cc
  failed_map stored.Memory is = cc

  pub places_map : (P : T → Type 0) (Q : U → Type 0) → ((t : T) → P t → Q (f t)) → (s : Stored T) → Places P s → Places Q (stored_map f s)
  places_map P Q each (stored.Whole t) is = each t is
  places_map P Q each stored.Failed is = tt
  places_map P Q each stored.Disk is = tt
  places_map P Q each stored.Memory is = tt

  pub stores_map : (P : T → Type 0) (Q : U → Type 0) (seen' : Option Files) (engine' : EngineState) (run' : RunState) (base : State Bytes) (h : History) (qs : List (List ℕ)) → ((t : T) → P t → Q (f t)) → (s : Stored T)
      → Stores P s seen' engine' run' base h qs → Stores Q (stored_map f s) seen' engine' run' base h qs
  stores_map P Q seen' engine' run' base h qs each (stored.Whole t) is = each t is
  stores_map P Q seen' engine' run' base h qs each stored.Failed is = is
  stores_map P Q seen' engine' run' base h qs each stored.Disk is = is
  stores_map P Q seen' engine' run' base h qs each stored.Memory is = is

-- ---- a range

range_by : (b : Bool) (body : Body) → cond b (stored.Whole body) stored.Memory ≡ stored.Disk → ⊥
range_by true body is = cc
range_by false body is = cc

range_fails : (b : Bool) (body : Body) → cond b (stored.Whole body) stored.Memory ≡ stored.Failed → ⊥
range_fails true body is = cc
range_fails false body is = cc

pub range_disk : (s : Storing) (len : ℕ) → range_end s len ≡ stored.Disk → s ≡ storing.Disk
range_disk (storing.Stored body) len is = absurd (range_by (body.len == len) body is)
range_disk storing.Full len is = cc
range_disk storing.SourceFault len is = cc
range_disk storing.Disk len is = refl
range_disk storing.Memory len is = cc

pub range_failed : (s : Storing) (len : ℕ) → range_end s len ≡ stored.Failed → s ≡ storing.SourceFault
range_failed (storing.Stored body) len is = absurd (range_fails (body.len == len) body is)
range_failed storing.Full len is = cc
range_failed storing.SourceFault len is = refl
range_failed storing.Disk len is = cc
range_failed storing.Memory len is = cc

module _ (r : Range) (run run' : RunState) where
  placed_by : (P : Body → Type 0) (body : Body) (b : Bool) → (body.len == r.len) ≡ b → (body.len ≡ r.len → P body) → Places P (cond b (stored.Whole body) stored.Memory)
  placed_by P body true is each = each (eqb-true body.len r.len is)
  placed_by P body false is each = tt

  -- how far the run came with it
  pub range_placed : (s : Storing) (left left' : Option (List ℕ)) (sum' : Md5) (seen seen' : Option Files) (log log' : LogState) → BodyStores s left left' sum' seen seen' log log' run run' → Places (RangeAt run run' r) (range_end s r.len)
  range_placed (storing.Stored body) left left' sum' seen seen' log log' is =
      placed_by (RangeAt run run' r) body (body.len == r.len) refl (λ same. (is.0.placed, is.0.next ∙ ap (λ (n : ℕ). run.next + pieces_size n) (sym is.0.len ∙ same)))
  range_placed storing.Full left left' sum' seen seen' log log' is = tt
  range_placed storing.SourceFault left left' sum' seen seen' log log' is = tt
  range_placed storing.Disk left left' sum' seen seen' log log' is = tt
  range_placed storing.Memory left left' sum' seen seen' log log' is = tt

  module _ (told : Option Raw) (seen' : Option Files) (engine' : EngineState) (base : State Bytes) (h : History) (qs : List (List ℕ)) where
    stored_by : (body : Body) (b : Bool) → (body.len == r.len) ≡ b → MoreIn seen' engine' run' base h qs → (body.len ≡ r.len → RangeIn told seen' engine' run' base h qs r body)
        → Stores (RangeIn told seen' engine' run' base h qs r) (cond b (stored.Whole body) stored.Memory) seen' engine' run' base h qs
    stored_by body true is more each = each (eqb-true body.len r.len is)
    stored_by body false is more each = more

    -- what became of it over a disk that tells
    pub range_stored : (s : Storing) (end : ℕ) (left left' : Option (List ℕ)) (sum' : Md5) → left ≡ told_between told r.part r.from end → end ≤ r.from + r.len → StoresBody s left left' sum' seen' engine' run run' base h qs
        → Stores (RangeIn told seen' engine' run' base h qs r) (range_end s r.len) seen' engine' run' base h qs
    range_stored (storing.Stored body) end left left' sum' at few is =
        stored_by body (body.len == r.len) refl (record { pieces = is.pieces; writing = is.writing })
        (λ same. record {
          pieces = is.pieces;
          writing = is.writing;
          stands = is.stands;
          reads = subst (λ (b : Bytes). IsOfRange told r b) (sym is.reads) (range_read told r end is.bytes left' few (sym at ∙ is.took) is.ended (sym is.len ∙ same));
        })
    range_stored storing.Full end left left' sum' at few is = record { pieces = is.0.pieces; writing = is.0.writing }
    range_stored storing.SourceFault end left left' sum' at few is = record { pieces = is.pieces; writing = is.writing }
    range_stored storing.Disk end left left' sum' at few is = is
    range_stored storing.Memory end left left' sum' at few is = more_none seen' engine' run' base h qs is

-- ---- a record of a range

module _ (run run' : RunState) (r : Range) where
  pub emit_at : (place : Option AccountPath) (reducer : Option ℕ) (body : Body) → RangeAt run run' r body → RecordAt run run' (Emit place reducer r) (Emit place reducer body)
  emit_at place reducer body is = (is.0, refl, is.1)

  pub keep_at : (place : AccountPath) (body : Body) → RangeAt run run' r body → RecordAt run run' (Keep place r) (Keep place body)
  keep_at place body is = (is.0, refl, is.1)

module _ (told : Option Raw) (seen' : Option Files) (engine' : EngineState) (run' : RunState) (base : State Bytes) (h : History) (qs : List (List ℕ)) (r : Range) where
  pub emit_in : (place : Option AccountPath) (reducer : Option ℕ) (body : Body) → RangeIn told seen' engine' run' base h qs r body → RecordIn told seen' engine' run' base h qs (Emit place reducer r) (Emit place reducer body)
  emit_in place reducer body is = record { pieces = is.pieces; writing = is.writing; stands = is.stands; over = (refl, refl, is.reads) }

  pub keep_in : (place : AccountPath) (body : Body) → RangeIn told seen' engine' run' base h qs r body → RecordIn told seen' engine' run' base h qs (Keep place r) (Keep place body)
  keep_in place body is = record { pieces = is.pieces; writing = is.writing; stands = is.stands; over = (refl, is.reads) }

pub ref_in : (told : Option Raw) (seen : Option Files) (engine : EngineState) (run : RunState) (base : State Bytes) (h : History) (qs : List (List ℕ)) (name : AccountPath) → IsWriting seen engine run base h qs → RecordIn told seen engine run base h qs (Ref name) (Ref name)
ref_in told seen engine run base h qs name w =
    let more = more_none seen engine run base h qs w in
    record { pieces = more.pieces; writing = more.writing; stands = tt; over = refl }

-- ---- records

pub end_disk : (s : Stored (TaskRecord Body)) → records_end s ≡ stored.Disk → s ≡ stored.Disk
end_disk (stored.Whole t) is = cc
end_disk stored.Failed is = cc
end_disk stored.Disk is = refl
end_disk stored.Memory is = cc

pub end_failed : (s : Stored (TaskRecord Body)) → records_end s ≡ stored.Failed → s ≡ stored.Failed
end_failed (stored.Whole t) is = cc
end_failed stored.Failed is = refl
end_failed stored.Disk is = cc
end_failed stored.Memory is = cc

pub end_places : (P : List (TaskRecord Body) → Type 0) (s : Stored (TaskRecord Body)) → Places P (records_end s)
end_places P (stored.Whole t) = tt
end_places P stored.Failed = tt
end_places P stored.Disk = tt
end_places P stored.Memory = tt

pub end_stores : (P : List (TaskRecord Body) → Type 0) (told : Option Raw) (r : TaskRecord Range) (seen' : Option Files) (engine' : EngineState) (run' : RunState) (base : State Bytes) (h : History) (qs pieces : List (List ℕ)) (s : Stored (TaskRecord Body))
    → Stores (RecordIn told seen' engine' run' base h (qs ++ pieces) r) s seen' engine' run' base h (qs ++ pieces) → Stores P (records_end s) seen' engine' run' base h qs
end_stores P told r seen' engine' run' base h qs pieces (stored.Whole t) is = more_behind seen' engine' run' base h qs pieces (record { pieces = is.pieces; writing = is.writing })
end_stores P told r seen' engine' run' base h qs pieces stored.Failed is = more_behind seen' engine' run' base h qs pieces is
end_stores P told r seen' engine' run' base h qs pieces stored.Disk is = is
end_stores P told r seen' engine' run' base h qs pieces stored.Memory is = more_behind seen' engine' run' base h qs pieces is

-- ---- a fate

pub good_at : (run run' : RunState) (rs : List (TaskRecord Range)) (ts : List (TaskRecord Body)) → RecordsAt run run' rs ts → FateAt run run' (Good rs) (Good ts)
good_at run run' rs ts is = (is.0, ap (λ (l : List (TaskRecord Body)). Good l) is.1, is.2)

pub good_in : (told : Option Raw) (seen' : Option Files) (engine' : EngineState) (run' : RunState) (base : State Bytes) (h : History) (qs : List (List ℕ)) (rs : List (TaskRecord Range)) (ts : List (TaskRecord Body))
    → RecordsIn told seen' engine' run' base h qs rs ts → FateIn told seen' engine' run' base h qs (Good rs) (Good ts)
good_in told seen' engine' run' base h qs rs ts is = record { pieces = is.pieces; writing = is.writing; stands = is.stands; over = is.over }
