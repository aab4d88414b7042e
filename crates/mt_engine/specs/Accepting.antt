-- What an engine does in a run: it stores bodies, and ends the run with a command or without.
use Rattle.std.specs.Prelude.{◌≡◌, ◌⊎◌, ℕ, ◌+◌, ◌<◌, ◌≤◌, true, List, [], ◌∷◌, ◌++◌, length, Option, Some, None}
use Rattle.md5.specs.Md5.{Holds}
use Rattle.md5.specs.declared.Md5.{Md5}
use Rattle.mt_base.specs.Lists.{IsPrefixOf}
use Rattle.mt_codec.specs.Spelling.{spelling}
use Rattle.mt_disk.specs.Files.{Files}
use Rattle.mt_edge.specs.Stream.{LeftAfter}
use Rattle.mt_log.specs.LogState.{next_place}
use Rattle.mt_log.specs.RunState.{RunState, size_with_run}
use Rattle.mt_body.specs.Filling.{AtEnd}
use Rattle.mt_body.specs.Growth.{growth}
use Rattle.mt_body.specs.Stored.{IsCut, IsStored, bytes_of, pieces_size, pieces_that_fit}
use Rattle.mt_body.specs.declared.pieces.Storing.{Storing}
use Rattle.mt_body.specs.declared.pieces.Storing.TheVariants as storing
use Rattle.mt_model.specs.CommandStep.{allowed, step}
use Rattle.mt_model.specs.State.{State}
use Rattle.mt_types.specs.declared.body.Body.{Body}
use Rattle.mt_types.specs.declared.command.Command.{Command}
use Rattle.mt_types.specs.declared.limits.TheConstants.{MOST_COMMANDS}
use Rattle.mt_opening.specs.Current.{EngineState, IsCurrent, IsWriting}
use Rattle.mt_opening.specs.History.{Bytes, History}
use Rattle.mt_engine.specs.declared.engine.Accepted.{Accepted}
use Rattle.mt_engine.specs.declared.engine.Accepted.TheVariants as accepted
use Rattle.mt_engine.specs.declared.publish.RunEnd.{RunEnd}
use Rattle.mt_engine.specs.declared.publish.RunEnd.TheVariants as ended

-- all bytes of a source were read and digested, and are in the run as a body that stands behind the payloads
pub record StoredIn (body : Body) (left left' : Option (List ℕ)) (sum' : Md5) (seen' : Option Files) (engine' : EngineState) (run run' : RunState) (base : State Bytes) (h : History) (qs : List (List ℕ)) : Type 0 where
  pub bytes : List ℕ
  pub took : LeftAfter left bytes left'
  pub ended : AtEnd left'
  pub digested : Holds sum' bytes
  pub pieces : List (List ℕ)
  pub cut : IsCut pieces bytes
  pub writing : IsWriting seen' engine' run' base h (qs ++ pieces)
  pub stands : IsStored (qs ++ pieces) body
  pub reads : bytes_of (qs ++ pieces) body ≡ bytes
  pub len : body.len ≡ length bytes
  pub next : run'.next ≡ run.next + pieces_size (length bytes)
  -- where the log was not over its limit before
  pub fits : run.next + 1 ≤ engine'.log.limit → run'.next + 1 ≤ engine'.log.limit

-- some bytes of a source were read and digested, and those of the front that had room are in the run as pieces
pub record PartIn (left left' : Option (List ℕ)) (sum' : Md5) (seen' : Option Files) (engine' : EngineState) (run run' : RunState) (base : State Bytes) (h : History) (qs : List (List ℕ)) : Type 0 where
  pub bytes : List ℕ
  pub took : LeftAfter left bytes left'
  pub digested : Holds sum' bytes
  pub pieces : List (List ℕ)
  pub front : List ℕ
  pub cut : IsCut pieces front
  pub is_front : IsPrefixOf front bytes
  pub writing : IsWriting seen' engine' run' base h (qs ++ pieces)
  pub next : run'.next ≡ run.next + pieces_that_fit engine'.log.limit (run.next + 1) (length bytes)
  pub all : run.next + pieces_size (length bytes) + 1 ≤ engine'.log.limit → front ≡ bytes

-- what became of a body that was to be stored behind these payloads
abbrev pub StoresBody : Storing → Option (List ℕ) → Option (List ℕ) → Md5 → Option Files → EngineState → RunState → RunState → State Bytes → History → List (List ℕ) → Type 0
StoresBody (storing.Stored body) left left' sum' seen' engine' run run' base h qs = StoredIn body left left' sum' seen' engine' run run' base h qs
StoresBody storing.Full left left' sum' seen' engine' run run' base h qs =
    (p : PartIn left left' sum' seen' engine' run run' base h qs) × (engine'.log.limit < run.next + pieces_size (length p.bytes) + 1)
StoresBody storing.SourceFault left left' sum' seen' engine' run run' base h qs = PartIn left left' sum' seen' engine' run run' base h qs
StoresBody storing.Disk left left' sum' seen' engine' run run' base h qs = engine'.log.closed ≡ true
StoresBody storing.Memory left left' sum' seen' engine' run run' base h qs = IsWriting seen' engine' run' base h qs

-- the engine once the records of a run count
abbrev pub with_run : EngineState → RunState → EngineState
with_run engine run = record engine { log = record engine.log { gate = run.next } }

-- the engine, closed
abbrev pub closed : EngineState → EngineState
closed engine = record engine { log = record engine.log { closed = true } }

-- a run is ended, or its log is closed
abbrev pub Ends : RunEnd → EngineState → RunState → EngineState → Type 0
Ends ended.Done engine run engine' = engine' ≡ with_run engine run
Ends ended.Disk engine run engine' = engine' ≡ closed engine

-- a run is given up, or its log is closed
abbrev pub Drops : RunEnd → EngineState → EngineState → Type 0
Drops ended.Done engine engine' = engine' ≡ engine
Drops ended.Disk engine engine' = engine' ≡ closed engine

-- an engine has room for a command behind pieces of so many bytes, and for one command more
pub record HasRoomFor (engine : EngineState) (pieces : ℕ) (command : Command Body) : Type 0 where
  pub few : engine.state.count < MOST_COMMANDS
  pub fits : engine.log.gate + 1 + growth pieces command ≤ engine.log.limit

-- the state takes the command, and so does the log behind the records of a run
pub record Takes (engine : EngineState) (run : RunState) (command : Command Body) : Type 0 where
  pub allows : allowed (λ b. b.len) engine.state command ≡ None
  pub few : engine.state.count < MOST_COMMANDS
  pub fits : size_with_run run (length (spelling command)) ≤ engine.log.limit

-- the engine once a command counts, behind the records of a run
abbrev pub with_command : EngineState → RunState → Command Body → EngineState
with_command engine run command =
    record { log = record engine.log { gate = next_place run.next (length (spelling command)) }; state = step engine.state command }

-- what is decided on a command, over any disk
abbrev pub Decided : Accepted → EngineState → RunState → Command Body → EngineState → Type 0
Decided accepted.Added engine run command engine' = Takes engine run command × (engine' ≡ with_command engine run command)
Decided (accepted.Refused refusal) engine run command engine' = (allowed (λ b. b.len) engine.state command ≡ Some refusal) × (engine' ≡ with_run engine run)
Decided accepted.Full engine run command engine' =
    (allowed (λ b. b.len) engine.state command ≡ None)
    × ((engine.state.count ≡ MOST_COMMANDS) ⊎ (engine.log.limit < size_with_run run (length (spelling command)))) × (engine' ≡ with_run engine run)
Decided accepted.Disk engine run command engine' = engine'.log.closed ≡ true
Decided accepted.Memory engine run command engine' = engine'.log.closed ≡ true
Decided accepted.Closed engine run command engine' = (engine.log.closed ≡ true) × (engine' ≡ engine)

-- the history that the disk then has: with the command where it was added, else that of before
abbrev pub Accepts : Accepted → Command Bytes → Option Files → EngineState → State Bytes → History → Type 0
Accepts accepted.Added c seen' engine' base h = IsCurrent seen' engine' base (h ++ c ∷ [])
Accepts (accepted.Refused refusal) c seen' engine' base h = IsCurrent seen' engine' base h
Accepts accepted.Full c seen' engine' base h = IsCurrent seen' engine' base h
Accepts accepted.Disk c seen' engine' base h = Unit {0}
Accepts accepted.Memory c seen' engine' base h = Unit {0}
Accepts accepted.Closed c seen' engine' base h = Unit {0}

-- the last history that a crash within the call may leave: that of before, or where the command is taken, and was added or the disk
-- failed, that with it
abbrev pub Reaches : Accepted → EngineState → RunState → Command Body → Command Bytes → History → History → Type 0
Reaches answer engine run command c h k =
    (k ≡ h) ⊎ ((k ≡ h ++ c ∷ []) × Takes engine run command × ((answer ≡ accepted.Added) ⊎ (answer ≡ accepted.Disk)))
