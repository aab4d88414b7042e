-- A log and the state of its account, which an engine holds, and how they stand to a history and a disk.
use Rattle.std.specs.Prelude.{◌≡◌, ℕ, ◌+◌, ◌≤◌, false, true, List, ◌++◌, length, Option, Some, None}
use Rattle.std.specs.List.{list_all}
use Rattle.std.specs.Option.{ForSome}
use Rattle.mt_base.specs.Lists.{IsPrefixOf}
use Rattle.mt_codec.specs.Pieces.{is_piece}
use Rattle.mt_disk.specs.Files.{Files}
use Rattle.mt_log.specs.LogImage.{IsLogOf, payloads_of}
use Rattle.mt_log.specs.LogState.{LogState, Stands}
use Rattle.mt_log.specs.RunState.{HasTaken, RunState}
use Rattle.mt_body.specs.Stored.{IsStored, bytes_of}
use Rattle.mt_model.specs.Bodies.{OfState, state_with}
use Rattle.mt_model.specs.CommandStep.{replay}
use Rattle.mt_model.specs.State.{State}
use Rattle.mt_types.specs.declared.body.Body.{Body}
use Rattle.mt_opening.specs.History.{Bytes, HasHistory, History, IsHistoryOf}

-- the log, and the state over references into it
pub record EngineState : Type 0 where
  pub log : LogState
  pub state : State Body

-- both of them as one
abbrev pub engine_of : LogState → State Body → EngineState
engine_of log state = record { log = log; state = state }

-- The engine is open, and the disk's log is its own: it stands for this history behind this base, where that leads is the state,
-- and the bodies of the state stand in it.
pub record IsRead (seen : Option Files) (engine : EngineState) (base : State Bytes) (h : History) : Type 0 where
  pub files : Files
  pub seen_is : seen ≡ Some files
  pub is_open : engine.log.closed ≡ false
  pub log : IsLogOf files engine.log.file engine.log.gate engine.log.is_old
  pub history : IsHistoryOf (payloads_of files) base h
  pub state : state_with (bytes_of (payloads_of files)) engine.state ≡ replay base h
  pub stored : OfState (IsStored (payloads_of files)) engine.state

-- the same of a log of this version, which takes commands
pub record IsCurrent (seen : Option Files) (engine : EngineState) (base : State Bytes) (h : History) : Type 0 where
  pub is_read : IsRead seen engine base h
  pub version : engine.log.is_old ≡ false

-- the same while a run is open that has taken pieces: the last are the payloads with those of the run
pub record IsWriting (seen : Option Files) (engine : EngineState) (run : RunState) (base : State Bytes) (h : History) (qs : List (List ℕ)) : Type 0 where
  pub current : IsCurrent seen engine base h
  pub records : List (List ℕ)
  pub pieces : list_all is_piece records ≡ true
  pub taken : HasTaken seen engine.log run records
  pub all : qs ≡ payloads_of current.is_read.files ++ records

-- the files have a history from the first of these up to the second
pub record IsBetween (base : State Bytes) (h k : History) (c : Files) : Type 0 where
  pub history : History
  pub has : HasHistory base history c
  pub from : IsPrefixOf h history
  pub to : IsPrefixOf history k

-- where the disk tells what it holds, the engine stands for this base and history
abbrev pub Over : Option Files → EngineState → State Bytes → History → Type 0
Over seen engine base h = ForSome seen (λ files. IsCurrent seen engine base h)

-- the bytes of the log, its closed gate among them, where the disk tells what it holds
abbrev pub told_size : Option Files → EngineState → ℕ
told_size None engine = 0
told_size (Some files) engine = engine.log.gate + 1

-- an image has a history that begins with this one
pub record HasFront (base : State Bytes) (c : Files) (front : History) : Type 0 where
  pub history : History
  pub has : HasHistory base history c
  pub is_front : IsPrefixOf front history

-- an image has the whole history, or all of it but its last command
pub record HasNearly (base : State Bytes) (whole : History) (c : Files) : Type 0 where
  pub history : History
  pub has : HasHistory base history c
  pub front : IsPrefixOf history whole
  pub last : length whole ≤ length history + 1

-- where the engine is open and the disk tells what it holds, it has a history
abbrev pub Serves : Option Files → EngineState → Type 0
Serves seen engine = engine.log.closed ≡ false → ForSome seen (λ files. (base : State Bytes) × (h : History) × IsCurrent seen engine base h)

-- an open engine of this version stands over a disk, and has a history where the disk tells what it holds
pub record EngineIsReady {D : Type 0} (seen : D → Option Files) (may_leave : D → Files → Type 0) (disk : D) (engine : EngineState) : Type 0 where
  pub stands : Stands seen may_leave disk engine.log
  pub is_open : engine.log.closed ≡ false
  pub version : engine.log.is_old ≡ false
  pub serves : Serves (seen disk) engine
