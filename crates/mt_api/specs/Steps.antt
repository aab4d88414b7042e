-- What the steps of an answer do: reading a body, refusing, adding a command.
use Rattle.std.specs.Prelude.{◌≡◌, ◌≢◌, ◌⊎◌, ℕ, ◌+◌, ◌<◌, ◌≤◌, true, false, List, ◌++◌, length, Option, Some, None, IfSome, is_some}
use Rattle.md5.specs.Md5.{md5}
use Rattle.mt_answer.specs.Answer.{Answer, command_of, stamp_of}
use Rattle.mt_answer.specs.Judging.{is_put_object, len_of, refusal_of, stores_body}
use Rattle.mt_answer.specs.Laws.{body_len}
use Rattle.mt_base.specs.Lists.{IsPrefixOf}
use Rattle.mt_body.specs.Stored.{IsStored, bytes_of, pieces_size, pieces_that_fit}
use Rattle.mt_cond.specs.Conditions.{conditions_of}
use Rattle.mt_disk.specs.Files.{Files}
use Rattle.mt_opening.specs.Current.{EngineState, IsCurrent, IsWriting}
use Rattle.mt_opening.specs.History.{Bytes, History}
use Rattle.mt_engine.specs.Accepting.{closed, with_run}
use Rattle.mt_error.specs.Refusals.{plain}
use Rattle.mt_error.specs.declared.code.ErrorCode.TheVariants as error
use Rattle.mt_error.specs.declared.refused.Refused.{Refused}
use Rattle.mt_http.specs.declared.message.Ending.{Ending}
use Rattle.mt_http.specs.declared.message.Ending.TheVariants as ending
use Rattle.mt_http.specs.declared.stage.Stage.{Stage}
use Rattle.mt_http.specs.declared.stage.Stage.TheVariants as at
use Rattle.mt_log.specs.RunState.{RunState}
use Rattle.mt_model.specs.CommandStep.{replay}
use Rattle.mt_model.specs.State.{State}
use Rattle.mt_request.specs.Digest.{digest_refusal}
use Rattle.mt_request.specs.Requests.{asked_of}
use Rattle.mt_request.specs.declared.asked.Asked.TheVariants as head
use Rattle.mt_request.specs.declared.digest.Wish.{Wish}
use Rattle.mt_request.specs.declared.request.Doing.{Doing}
use Rattle.mt_request.specs.declared.request.Request.{Request}
use Rattle.mt_types.specs.declared.body.Body.{Body}
use Rattle.mt_types.specs.declared.reply.Reply.{Reply}
use Rattle.mt_types.specs.declared.reply.ReplyBody.{ReplyBody}
use Rattle.mt_types.specs.declared.reply.ReplyBody.TheVariants.{Held, Part}
use Rattle.mt_api.specs.Answered.{Asked, Gives, IsLeft, answer_at, used}
use Rattle.mt_api.specs.declared.answered.Answered.{Answered}
use Rattle.mt_api.specs.declared.answered.Answered.TheVariants as answered
use Rattle.mt_api.specs.declared.bodies.BodyEnd.{BodyEnd}
use Rattle.mt_api.specs.declared.bodies.BodyEnd.TheVariants as body_end
use Rattle.mt_api.specs.declared.bodies.Rest.{Rest}
use Rattle.mt_api.specs.declared.bodies.Rest.TheVariants as rest
use Rattle.mt_api.specs.declared.call.Call.{Call}

-- ---- a body

-- these are all bytes that were left of it, where that is told
abbrev pub IsAll : Option (List ℕ) → Bytes → Type 0
IsAll left bytes = IfSome left (λ all. all ≡ bytes)

-- these are bytes from its front
abbrev pub IsFront : Option (List ℕ) → Bytes → Type 0
IsFront left bytes = IfSome left (λ all. IsPrefixOf bytes all)

-- how a body ended that was read to its end, or to a fault
abbrev pub end_of : Option Ending → BodyEnd
end_of None = body_end.SourceFault
end_of (Some ending.Whole) = body_end.Whole
end_of (Some ending.Truncated) = body_end.Unfinished ending.Truncated
end_of (Some ending.Bad) = body_end.Unfinished ending.Bad
end_of (Some ending.TooLarge) = body_end.Unfinished ending.TooLarge

-- the stage of a stream behind it
abbrev pub EndsSo : BodyEnd → Stage → Type 0
EndsSo body_end.Whole stage = stage ≡ at.Over ending.Whole
EndsSo (body_end.Unfinished e) stage = (stage ≡ at.Over e) × (e ≢ ending.Whole)
EndsSo body_end.SourceFault stage = Unit {0}
EndsSo body_end.Endless stage = Unit {0}

-- which bytes were read
abbrev pub ReadsSo : BodyEnd → Option (List ℕ) → Bytes → Type 0
ReadsSo body_end.Whole left bytes = IsAll left bytes
ReadsSo (body_end.Unfinished e) left bytes = IsAll left bytes
ReadsSo body_end.SourceFault left bytes = IsFront left bytes
ReadsSo body_end.Endless left bytes = Unit {0}

-- the stage of a stream whose body isn't stored
abbrev pub RestEnds : Rest → Stage → Type 0
RestEnds (rest.Whole digest) stage = stage ≡ at.Over ending.Whole
RestEnds (rest.Unfinished e) stage = (stage ≡ at.Over e) × (e ≢ ending.Whole)
RestEnds rest.SourceFault stage = Unit {0}
RestEnds rest.Memory stage = Unit {0}

-- which bytes were read of it; its digest is known where the request wants one
abbrev pub RestReads : Rest → Wish → Option (List ℕ) → Bytes → Type 0
RestReads (rest.Whole digest) wish left bytes = IsAll left bytes × (digest_refusal wish digest ≡ digest_refusal wish (Some (md5 bytes)))
RestReads (rest.Unfinished e) wish left bytes = IsAll left bytes
RestReads rest.SourceFault wish left bytes = IsFront left bytes
RestReads rest.Memory wish left bytes = Unit {0}

-- ---- a call

-- what a head asks for that asks this of objects and directories
abbrev pub call_of : Asked → Request → EngineState → Call
call_of asked request engine = record { request = request; conditions = conditions_of asked.head.fields; stamp = stamp_of asked.head engine.state.count asked.moment }

-- a call is what a head asks for
pub record IsCallOf (asked : Asked) (engine : EngineState) (call : Call) : Type 0 where
  pub asks : asked_of asked.login asked.head ≡ head.Rows call.request
  pub is : call ≡ call_of asked call.request engine

-- the call puts an object whose body is stored
abbrev pub StoresBody : EngineState → Call → Type 0
StoresBody engine call = stores_body len_of call.request engine.state.rows call.conditions ≡ true

-- what is done has a command
abbrev pub Adds : EngineState → Doing → Type 0
Adds engine doing = (body : Body) (moment : ℕ) → is_some (command_of engine.state.rows doing body moment) ≡ true

-- The refusal of a call whose body has this digest.
abbrev pub refusal : EngineState → Call → Option (List ℕ) → Option Refused
refusal engine call digest = refusal_of len_of call.request engine.state.rows call.conditions digest

-- A run that is to end with the command of a call, which isn't refused: it has taken the body of these bytes, where that is stored,
-- and nothing else.
pub record IsReady (seen : Option Files) (engine : EngineState) (run : RunState) (base : State Bytes) (h : History) (qs : List (List ℕ)) (call : Call) (body : Body) (bytes : Bytes) : Type 0 where
  pub writing : IsWriting seen engine run base h qs
  pub none : refusal engine call (Some (md5 bytes)) ≡ None
  pub stored : is_put_object call.request.doing ≡ true → IsStored qs body × (bytes_of qs body ≡ bytes)
  pub next : run.next + 1 ≡ used engine + pieces_size (body_len call.request.doing (length bytes))
  pub fits : pieces_that_fit engine.log.limit (used engine) (body_len call.request.doing (length bytes)) ≡ pieces_size (body_len call.request.doing (length bytes))

-- ---- answers

-- the bytes of the reply are at hand
abbrev pub IsHeld : ReplyBody Body → Type 0
IsHeld (Held bytes) = Unit {0}
IsHeld (Part body from to) = ⊥

abbrev pub AreHeld : Answered → Type 0
AreHeld (answered.Replied reply) = IsHeld reply.body
AreHeld (answered.Unfinished e) = Unit {0}
AreHeld answered.SourceFault = Unit {0}
AreHeld answered.Disk = Unit {0}
AreHeld answered.Memory = Unit {0}

-- this is the reply, or memory was wanting
abbrev pub Replies : Answered → Reply Body → Type 0
Replies (answered.Replied reply) said = reply ≡ said
Replies (answered.Unfinished e) said = ⊥
Replies answered.SourceFault said = ⊥
Replies answered.Disk said = ⊥
Replies answered.Memory said = Unit {0}

-- the body was whole before: it is answered, or the disk failed, or memory was wanting
abbrev pub IsSettled : Answered → Type 0
IsSettled (answered.Replied reply) = Unit {0}
IsSettled (answered.Unfinished e) = ⊥
IsSettled answered.SourceFault = ⊥
IsSettled answered.Disk = Unit {0}
IsSettled answered.Memory = Unit {0}

-- a run is ended and this is answered, or the disk failed
abbrev pub EndsWith : Answered → Answered → EngineState → RunState → EngineState → Type 0
EndsWith result answer engine run engine' = ((result ≡ answer) × (engine' ≡ with_run engine run)) ⊎ ((result ≡ answered.Disk) × (engine' ≡ closed engine))

-- what became of an answer over a history: it is given; or the disk failed, and its command may stand or not; or want of memory
abbrev pub Settles : Answered → Answer Bytes → ℕ → State Bytes → History → Option Files → EngineState → History → Type 0
Settles (answered.Replied reply) answer before base h seen' engine' k = Gives reply answer before base h seen' engine' k
Settles (answered.Unfinished e) answer before base h seen' engine' k = ⊥
Settles answered.SourceFault answer before base h seen' engine' k = ⊥
Settles answered.Disk answer before base h seen' engine' k = (engine'.log.closed ≡ true) × ((k ≡ h) ⊎ (k ≡ h ++ answer.added))
Settles answered.Memory answer before base h seen' engine' k = (k ≡ h) × (engine'.log.closed ≡ false → IsCurrent seen' engine' base h)

-- what became of a call over a history, by what was left of its body and the stage of its stream at exit
abbrev pub Goes : Answered → Asked → EngineState → State Bytes → History → Option (List ℕ) → Stage → Option Files → EngineState → History → Type 0
Goes (answered.Replied reply) asked engine base h left stage' seen' engine' k =
    (bytes : Bytes) × IsAll left bytes × Gives reply (answer_at asked engine (replay base h) bytes) (used engine) base h seen' engine' k
Goes (answered.Unfinished e) asked engine base h left stage' seen' engine' k =
    (k ≡ h) × ((bytes : Bytes) × IsAll left bytes × IsLeft asked engine base h bytes seen' engine')
Goes answered.SourceFault asked engine base h left stage' seen' engine' k =
    (k ≡ h) × ((bytes : Bytes) × IsFront left bytes × IsLeft asked engine base h bytes seen' engine')
Goes answered.Disk asked engine base h left stage' seen' engine' k =
    (engine'.log.closed ≡ true)
    × ((k ≡ h) ⊎ ((bytes : Bytes) × IsAll left bytes × (stage' ≡ at.Over ending.Whole) × (k ≡ h ++ (answer_at asked engine (replay base h) bytes).added)))
Goes answered.Memory asked engine base h left stage' seen' engine' k = (k ≡ h) × (engine'.log.closed ≡ false → IsCurrent seen' engine' base h)

-- ---- puts

-- of a body that has no room: its digest is judged before the room
abbrev pub without_room : Option Refused → Refused
without_room (Some r) = r
without_room None = plain error.NotEnoughSpace

-- a run has taken all of the body of a call, and nothing else
pub record IsWhole (seen : Option Files) (engine : EngineState) (run : RunState) (base : State Bytes) (h : History) (qs : List (List ℕ)) (body : Body) (bytes : Bytes) : Type 0 where
  pub writing : IsWriting seen engine run base h qs
  pub stored : IsStored qs body
  pub reads : bytes_of qs body ≡ bytes
  pub next : run.next + 1 ≡ used engine + pieces_size (length bytes)
  pub fits : run.next + 1 ≤ engine.log.limit

-- a run has taken the pieces that had room of the first bytes of a body, and these have no room
pub record HasNoRoom (seen : Option Files) (engine : EngineState) (run : RunState) (base : State Bytes) (h : History) (qs : List (List ℕ)) (bytes : Bytes) : Type 0 where
  pub writing : IsWriting seen engine run base h qs
  pub next : run.next + 1 ≡ used engine + pieces_that_fit engine.log.limit (used engine) (length bytes)
  pub full : engine.log.limit < used engine + pieces_size (length bytes)

-- ---- other calls

-- the body of the call isn't stored
abbrev pub IsPlain : EngineState → Call → Type 0
IsPlain engine call = stores_body len_of call.request engine.state.rows call.conditions ≡ false
