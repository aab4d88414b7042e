-- Reading a log from its front on.
use Rattle.std.specs.Prelude.{◌≡◌, ◌≢◌, ◌<◌, ◌≤◌, ℕ, ◌+◌, ◌^◌, Bool, true, false, List, ◌∷◌, ◌++◌, length, take, drop, Option, Some, None, Result, Ok, Err, IsOk}
use Rattle.std.specs.Int.{w32, to_be_bytes}
use Rattle.std.specs.List.{flat_map}
use Rattle.mt_disk.specs.declared.disk.FileNo.{FileNo}
use Rattle.mt_disk.specs.Files.{Files, contents}
use Rattle.mt_log.specs.declared.open_error.OpenError.{OpenError}
use Rattle.mt_log.specs.declared.open_error.OpenError.TheVariants as refusal
use Rattle.mt_log.specs.LogImage.{AllFit, Holds, LogFault, NotALog, OldVersion, Damaged, Short, magic_of, payloads_from, record_head, record_of}

-- the fault of a log that a refusal names
abbrev pub fault_of : OpenError → Option LogFault
fault_of refusal.NotALog = Some NotALog
fault_of refusal.OldVersion = Some OldVersion
fault_of (refusal.Damaged at kept computed) = Some (Damaged at kept computed)
fault_of (refusal.Short at wanted left) = Some (Short at wanted left)
fault_of refusal.Disk = None
fault_of refusal.Memory = None

-- an opening answers what reading gives: Ok only where the log can be read, and a refusal that names a fault only at that fault
abbrev pub OpensAs : {T : Type 0} → Result T OpenError → Result (List (List ℕ)) LogFault → Type 0
OpensAs (Ok log) read = IsOk read
OpensAs (Err refused) read = (fault : LogFault) → fault_of refused ≡ Some fault → read ≡ Err fault

-- what is read of a file: its length, the place from which on nothing was taken yet, and the bytes there that are in memory
pub record WindowState : Type 0 where
  pub file : FileNo
  pub end : ℕ
  pub at : ℕ
  pub held : List ℕ

-- the bytes of the window's file from its place on
abbrev pub rest_at : Files → WindowState → List ℕ
rest_at files window = drop window.at (contents files window.file)

-- the window is one of these files
pub record IsWindow (files : Files) (window : WindowState) : Type 0 where
  pub end_is : window.end ≡ length (contents files window.file)
  pub held_is : window.held ≡ take (length window.held) (rest_at files window)

-- a gate that isn't open stands in front
pub record IsShut (rest : List ℕ) : Type 0 where
  pub byte : ℕ
  pub tail : List ℕ
  pub is : rest ≡ byte ∷ tail
  pub shut : byte ≢ 1

-- an open gate stands in front
pub record IsOpenGate (rest : List ℕ) : Type 0 where
  pub tail : List ℕ
  pub is : rest ≡ 1 ∷ tail

abbrev pub GateIs : Bool → List ℕ → Type 0
GateIs true rest = IsOpenGate rest
GateIs false rest = IsShut rest

-- a whole record stands in front, and has so many bytes
pub record HasRecord (rest : List ℕ) (size : ℕ) : Type 0 where
  pub payload : List ℕ
  pub fits : length payload < 2 ^ 32
  pub size_is : size ≡ record_head + length payload
  pub whole : take size rest ≡ record_of payload

-- up to this place stand the first bytes of a version and then whole records
pub record Walked (old : Bool) (bytes : List ℕ) (at : ℕ) : Type 0 where
  pub payloads : List (List ℕ)
  pub front : take at bytes ≡ magic_of old ++ flat_map record_of payloads
  pub place : at ≡ length (magic_of old ++ flat_map record_of payloads)
  pub each : AllFit payloads

-- reading these bytes, which stand at this place, gives this
pub record EndsWith (at : ℕ) (rest : List ℕ) (read : Result (List (List ℕ)) LogFault) : Type 0 where
  pub is : (most : ℕ) → length rest ≤ most → payloads_from most at rest ≡ read

-- a log of a version with its closed gate at this place
pub record HasLog (old : Bool) (bytes : List ℕ) (gate : ℕ) : Type 0 where
  pub payloads : List (List ℕ)
  pub holds : Holds old bytes gate payloads

-- whole records up to a place, and from there on a fault
pub record StopsAt (old : Bool) (bytes : List ℕ) (fault : LogFault) : Type 0 where
  pub at : ℕ
  pub walked : Walked old bytes at
  pub ends : EndsWith at (drop at bytes) (Err fault)

-- behind a gate stand this length and this MD5
pub record IsHead (behind : List ℕ) (len : ℕ) (sum : List ℕ) : Type 0 where
  pub len_is : take 4 behind ≡ to_be_bytes w32 len
  pub sum_is : take 16 (drop 4 behind) ≡ sum
