-- What became of a request: what was read of its body, the history that the disk then has, and what the reply shows.
use Rattle.std.specs.Prelude.{◌≡◌, ◌≢◌, ◌⊎◌, ℕ, ◌+◌, ◌≤◌, true, false, List, ◌++◌, length, Option, Some, IfSome, option_map}
use Rattle.std.specs.Option.{ForSome}
use Rattle.mt_answer.specs.Answer.{Answer}
use Rattle.mt_answer.specs.Judging.{stored_asked}
use Rattle.mt_answer.specs.Whole.{answer_of}
use Rattle.mt_base.specs.Lists.{IsPrefixOf}
use Rattle.mt_body.specs.Stored.{IsStored, bytes_of, pieces_that_fit}
use Rattle.mt_cond.specs.Conditions.{conditions_of}
use Rattle.mt_disk.specs.Files.{Files}
use Rattle.mt_opening.specs.Current.{EngineState, IsCurrent}
use Rattle.mt_opening.specs.History.{Bytes, History}
use Rattle.mt_http.specs.Body.{BodyState, Told, told_from}
use Rattle.mt_http.specs.declared.message.Ending.TheVariants as ending
use Rattle.mt_http.specs.declared.message.Head.{Head}
use Rattle.mt_http.specs.declared.stage.Stage.{Stage}
use Rattle.mt_http.specs.declared.stage.Stage.TheVariants as at
use Rattle.mt_log.specs.LogState.{told}
use Rattle.mt_model.specs.CommandStep.{replay}
use Rattle.mt_model.specs.Rows.{object_at}
use Rattle.mt_model.specs.State.{State}
use Rattle.mt_path.specs.AccountPath.{AccountPath}
use Rattle.mt_request.specs.Requests.{asked_of}
use Rattle.mt_types.specs.Values.{reply_with}
use Rattle.mt_types.specs.declared.body.Body.{Body}
use Rattle.mt_types.specs.declared.object.Object.{Object}
use Rattle.mt_types.specs.declared.reply.Reply.{Reply}
use Rattle.mt_types.specs.declared.reply.ReplyBody.{ReplyBody}
use Rattle.mt_types.specs.declared.reply.ReplyBody.TheVariants.{Held, Part}
use Rattle.mt_api.specs.declared.answered.Answered.{Answered}
use Rattle.mt_api.specs.declared.answered.Answered.TheVariants as answered

-- the length of the log in bytes
abbrev pub used : EngineState → ℕ
used engine = engine.log.gate + 1

-- what is left of a source as the rest of a body that was read so far, where the source tells it
abbrev pub said : BodyState → Option (List ℕ) → Option Told
said body left = option_map (told_from body) left

-- a request: who asks, its head, its body where the source tells it, and its moment
pub record Asked : Type 0 where
  pub login : List ℕ
  pub head : Head
  pub body : Option Told
  pub moment : ℕ

-- what a request with this body is answered, over the log and the state that a history leads to
abbrev pub answer_at : Asked → EngineState → State Bytes → Bytes → Answer Bytes
answer_at asked engine s bytes = answer_of asked.login engine.log.limit s (used engine) asked.head bytes asked.moment

-- by how much the log grows where this came of a body and nothing is answered: by the pieces of it that had room, of a put that its
-- head and the state take
abbrev pub left_behind : Asked → EngineState → State Bytes → Bytes → ℕ
left_behind asked engine s bytes =
    pieces_that_fit engine.log.limit (used engine) (stored_asked length (asked_of asked.login asked.head) s.rows (conditions_of asked.head.fields) (length bytes))

-- The body was read to its end before a reply is given, and to its end where it is not whole; the source stands at what follows.
abbrev pub Hears : Answered → Told → Option (List ℕ) → Type 0
Hears (answered.Replied reply) t left' = (t.ending ≡ ending.Whole) × (left' ≡ Some t.rest)
Hears (answered.Unfinished e) t left' = (t.ending ≡ e) × (left' ≡ Some t.rest)
Hears answered.SourceFault t left' = Unit {0}
Hears answered.Disk t left' = Unit {0}
Hears answered.Memory t left' = Unit {0}

-- the same of a source that tells nothing
abbrev pub EndsBody : Answered → Stage → Type 0
EndsBody (answered.Replied reply) stage = stage ≡ at.Over ending.Whole
EndsBody (answered.Unfinished e) stage = (stage ≡ at.Over e) × (e ≢ ending.Whole)
EndsBody answered.SourceFault stage = Unit {0}
EndsBody answered.Disk stage = Unit {0}
EndsBody answered.Memory stage = Unit {0}

-- The reply is that of an answer: its commands stand behind the history, the log grew by what it says from so many bytes on, and
-- the reply shows its bytes.
pub record Gives (reply : Reply Body) (answer : Answer Bytes) (before : ℕ) (base : State Bytes) (h : History) (seen' : Option Files) (engine' : EngineState) (k : History) : Type 0 where
  pub history : k ≡ h ++ answer.added
  pub current : IsCurrent seen' engine' base k
  pub grew : used engine' ≡ before + answer.grew
  pub shows : ForSome (told seen') (λ ps. reply_with (bytes_of ps) reply ≡ answer.reply)

-- Nothing is answered, and the history is that of before. Of the bytes that came the pieces stay.
pub record IsLeft (asked : Asked) (engine : EngineState) (base : State Bytes) (h : History) (bytes : Bytes) (seen' : Option Files) (engine' : EngineState) : Type 0 where
  pub current : IsCurrent seen' engine' base h
  pub grew : used engine' ≡ used engine + left_behind asked engine (replay base h) bytes

-- The command of a request whose body is whole may stand, where the disk failed.
pub record MayStand (asked : Asked) (engine : EngineState) (base : State Bytes) (h : History) (left' : Option (List ℕ)) (k : History) : Type 0 where
  pub bytes : Bytes
  pub whole : IfSome asked.body (λ t. (t.body ≡ bytes) × (t.ending ≡ ending.Whole) × (left' ≡ Some t.rest))
  pub history : k ≡ h ++ (answer_at asked engine (replay base h) bytes).added

-- What became of a request over a history, by what is left of the source and the last history that a crash may leave: its one answer;
-- or nothing where its body is not whole or the source failed; or, where the disk failed, nothing or its command.
abbrev pub Answers : Answered → Asked → EngineState → State Bytes → History → Option (List ℕ) → Option Files → EngineState → History → Type 0
Answers (answered.Replied reply) asked engine base h left' seen' engine' k =
    (bytes : Bytes) × IfSome asked.body (λ t. t.body ≡ bytes) × Gives reply (answer_at asked engine (replay base h) bytes) (used engine) base h seen' engine' k
Answers (answered.Unfinished e) asked engine base h left' seen' engine' k =
    (k ≡ h) × ((bytes : Bytes) × IfSome asked.body (λ t. t.body ≡ bytes) × IsLeft asked engine base h bytes seen' engine')
Answers answered.SourceFault asked engine base h left' seen' engine' k =
    (k ≡ h) × ((bytes : Bytes) × IfSome asked.body (λ t. IsPrefixOf bytes t.body) × IsLeft asked engine base h bytes seen' engine')
Answers answered.Disk asked engine base h left' seen' engine' k = (engine'.log.closed ≡ true) × ((k ≡ h) ⊎ MayStand asked engine base h left' k)
Answers answered.Memory asked engine base h left' seen' engine' k = (k ≡ h) × (engine'.log.closed ≡ false → IsCurrent seen' engine' base h)

-- the bytes that a reply has can be sent: they are a part of the body of an object of the state, which stands in the log
pub record IsShown (body : Body) (from to : ℕ) (seen : Option Files) (engine : EngineState) : Type 0 where
  pub order : from ≤ to
  pub within : to ≤ body.len
  pub path : AccountPath
  pub object : Object Body
  pub there : object_at engine.state.rows path ≡ Some object
  pub is : object.body ≡ body
  pub stored : ForSome (told seen) (λ ps. IsStored ps body)

abbrev pub Shows : ReplyBody Body → Option Files → EngineState → Type 0
Shows (Held bytes) seen engine = Unit {0}
Shows (Part body from to) seen engine = IsShown body from to seen engine

abbrev pub CanBeSent : Answered → Option Files → EngineState → Type 0
CanBeSent (answered.Replied reply) seen engine = Shows reply.body seen engine
CanBeSent (answered.Unfinished e) seen engine = Unit {0}
CanBeSent answered.SourceFault seen engine = Unit {0}
CanBeSent answered.Disk seen engine = Unit {0}
CanBeSent answered.Memory seen engine = Unit {0}
