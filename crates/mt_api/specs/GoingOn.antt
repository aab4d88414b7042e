-- What the steps of an answer ask of what they are given, and what they all keep.
use Rattle.std.specs.Prelude.{◌≡◌, ◌≢◌, ℕ, ◌≤◌, false, IsTrue, List, Option}
use Rattle.mt_base.specs.Counts.{Rose}
use Rattle.mt_base.specs.declared.limits.TheConstants.{LAST_MOMENT}
use Rattle.mt_disk.specs.Files.{Files}
use Rattle.mt_opening.specs.Current.{EngineIsReady, EngineState}
use Rattle.mt_engine.specs.Ready.{EngineStays, RunIsReady}
use Rattle.mt_http.specs.Further.{BodyGoesOn}
use Rattle.mt_http.specs.declared.stream.BodyStream.{BodyStream}
use Rattle.mt_log.specs.LogState.{Stands}
use Rattle.mt_log.specs.RunState.{RunState}
use Rattle.mt_request.specs.Laws.{FitsDoing}
use Rattle.mt_types.specs.Limits.{is_placed}
use Rattle.mt_types.specs.declared.body.Body.{Body}
use Rattle.mt_api.specs.Answered.{CanBeSent, EndsBody}
use Rattle.mt_api.specs.Steps.{AreHeld, IsSettled}
use Rattle.mt_api.specs.declared.answered.Answered.{Answered}
use Rattle.mt_api.specs.declared.answered.Answered.TheVariants as answered
use Rattle.mt_api.specs.declared.call.Call.{Call}

-- a call as it was read from its head, over an engine without a run
pub record CallIsReady {D : Type 0} (seen : D → Option Files) (may_leave : D → Files → Type 0) (disk : D) (engine : EngineState) (call : Call) : Type 0 where
  pub over : EngineIsReady seen may_leave disk engine
  pub moment : call.stamp.moment ≤ LAST_MOMENT
  pub fits : FitsDoing call.request.doing

-- and one within a run, with the body of its command
pub record CallInRun {D : Type 0} (seen : D → Option Files) (may_leave : D → Files → Type 0) (disk : D) (engine : EngineState) (run : RunState) (call : Call) (body : Body) : Type 0 where
  pub over : RunIsReady seen may_leave disk engine run
  pub moment : call.stamp.moment ≤ LAST_MOMENT
  pub fits : FitsDoing call.request.doing
  pub placed : IsTrue (is_placed body)

-- A step behind which no run is open: what every call of an engine keeps, and that the engine stands. It is closed only where the
-- disk failed or memory did, and the disk failed only where its count of faults rose.
pub record StepKeeps {D : Type 0} (seen : D → Option Files) (may_leave : D → Files → Type 0) (count : D → ℕ) (old new : D) (result : Answered) (engine engine' : EngineState) : Type 0 where
  pub stays : EngineStays seen count old new engine engine'
  pub stands : Stands seen may_leave new engine'.log
  pub live : result ≢ answered.Disk → result ≢ answered.Memory → engine'.log.closed ≡ false
  pub disk : result ≡ answered.Disk → Rose (count old) (count new)

-- and one that ends a run, behind a body that is whole
pub record SettlesInRun {D : Type 0} (seen : D → Option Files) (may_leave : D → Files → Type 0) (count : D → ℕ) (old new : D) (result : Answered) (engine engine' : EngineState) : Type 0 where
  pub keeps : StepKeeps seen may_leave count old new result engine engine'
  pub is_settled : IsSettled result
  pub held : AreHeld result

-- and one behind a body that isn't stored
pub record SettlesCall {D : Type 0} (seen : D → Option Files) (may_leave : D → Files → Type 0) (count : D → ℕ) (old new : D) (result : Answered) (engine engine' : EngineState) : Type 0 where
  pub keeps : StepKeeps seen may_leave count old new result engine engine'
  pub is_settled : IsSettled result
  pub sends : CanBeSent result (seen new) engine'

-- And one that reads the body of what it answers: a reply is given only behind a body that was read to its end, and what the reply
-- has can be sent.
pub record AnswerGoesOn {D X : Type 0} (seen : D → Option Files) (may_leave : D → Files → Type 0) (count : D → ℕ) (left : X → Option (List ℕ)) (reads : X → ℕ) (alone : X → X → Type 0) (old new : D) (stream stream' : BodyStream X) (result : Answered) (engine engine' : EngineState) : Type 0 where
  pub over : EndsBody result stream'.framer.stage
  pub sends : CanBeSent result (seen new) engine'
  pub keeps : StepKeeps seen may_leave count old new result engine engine'
  pub body : BodyGoesOn left reads alone stream stream' (result ≡ answered.SourceFault)
