-- What the calls of an engine ask of it and of its disk, and what they all keep.
use Rattle.std.specs.Prelude.{◌≡◌, ℕ, ◌≤◌, false, Option, is_some}
use Rattle.mt_base.specs.Counts.{NeverFell}
use Rattle.mt_disk.specs.Files.{Files}
use Rattle.mt_log.specs.LogState.{Stands}
use Rattle.mt_log.specs.RunState.{RunState, Running}
use Rattle.mt_opening.specs.Current.{EngineState, Serves}

-- What each call keeps: where the engine is open behind it, a disk that told what it held tells it still, and the log's version and
-- limit are as they were. The count of the disk's faults doesn't fall.
pub record EngineStays {D : Type 0} (seen : D → Option Files) (count : D → ℕ) (disk disk' : D) (engine engine' : EngineState) : Type 0 where
  pub told : engine'.log.closed ≡ false → is_some (seen disk') ≡ is_some (seen disk)
  pub version : engine'.log.closed ≡ false → engine'.log.is_old ≡ engine.log.is_old
  pub limit : engine'.log.closed ≡ false → engine'.log.limit ≡ engine.log.limit
  pub faults : NeverFell (count disk) (count disk')

-- and, of a call behind which no run is open, that the engine stands and has a history
pub record EngineGoesOn {D : Type 0} (seen : D → Option Files) (may_leave : D → Files → Type 0) (count : D → ℕ) (disk disk' : D) (engine engine' : EngineState) : Type 0 where
  pub stays : EngineStays seen count disk disk' engine engine'
  pub stands : Stands seen may_leave disk' engine'.log
  pub serves : Serves (seen disk') engine'

-- a run goes on over a disk, where the engine is open
pub record RunGoesOn {D : Type 0} (seen : D → Option Files) (may_leave : D → Files → Type 0) (disk : D) (engine : EngineState) (run : RunState) : Type 0 where
  pub running : Running seen may_leave disk engine.log run
  pub order : engine.log.closed ≡ false → engine.log.gate ≤ run.next

-- and it is
pub record RunIsReady {D : Type 0} (seen : D → Option Files) (may_leave : D → Files → Type 0) (disk : D) (engine : EngineState) (run : RunState) : Type 0 where
  pub running : Running seen may_leave disk engine.log run
  pub order : engine.log.closed ≡ false → engine.log.gate ≤ run.next
  pub is_open : engine.log.closed ≡ false
