-- The laws of answers: over references they are those over the bytes that are read, and what isn't refused may be done.
use Rattle.std.specs.Prelude.{◌≡◌, ℕ, ◌<◌, ◌≤◌, ◌+◌, ◌⊎◌, true, List, [], ◌∷◌, length, Option, Some, None, is_some, if◌then◌else◌}
use Rattle.std.specs.List.{AllByRecursion}
use Rattle.md5.specs.Md5.{md5}
use Rattle.mt_body.specs.Growth.{growth}
use Rattle.mt_body.specs.Stored.{pieces_size}
use Rattle.mt_cond.specs.Conditions.{conditions_of}
use Rattle.mt_cond.specs.declared.conditions.Conditions.{Conditions}
use Rattle.mt_error.specs.Refusals.{plain}
use Rattle.mt_error.specs.declared.code.ErrorCode.TheVariants as error
use Rattle.mt_error.specs.declared.refused.Refused.{Refused}
use Rattle.mt_http.specs.declared.message.Head.{Head}
use Rattle.mt_live.specs.LiveTexts.{IsEntryListable}
use Rattle.mt_model.specs.Bodies.{OfState, rows_with, state_with}
use Rattle.mt_model.specs.CommandStep.{allowed, step}
use Rattle.mt_model.specs.Keeping.{KeepsLimits}
use Rattle.mt_model.specs.Lawful.{Lawful}
use Rattle.mt_model.specs.Laws.{KeepsSize, Reading}
use Rattle.mt_model.specs.Rows.{Rows, object_at}
use Rattle.mt_model.specs.State.{State}
use Rattle.mt_path.specs.AccountPath.{AccountPath}
use Rattle.mt_reply.specs.Replies.{stored_reply}
use Rattle.mt_reply.specs.declared.stamp.Stamp.{Stamp}
use Rattle.mt_request.specs.Requests.{asked_of}
use Rattle.mt_request.specs.declared.asked.Asked.TheVariants as asked
use Rattle.mt_request.specs.declared.request.Doing.{Doing}
use Rattle.mt_request.specs.declared.request.Doing.TheVariants.{PutObject, PutLink}
use Rattle.mt_request.specs.declared.request.Request.{Request}
use Rattle.mt_types.specs.Values.{command_with, reply_with}
use Rattle.mt_types.specs.declared.body.Body.{Body}
use Rattle.mt_types.specs.declared.command.Command.{Command}
use Rattle.mt_types.specs.declared.command.Command.TheVariants.{Put, Link}
use Rattle.mt_types.specs.declared.limits.TheConstants.{MOST_COMMANDS}
use Rattle.mt_types.specs.declared.object.Field.{Field}
use Rattle.mt_types.specs.declared.object.Object.{Object}
use Rattle.mt_answer.specs.Answer.{answer_in, answer_with, command_of, refuse, reply_to, rows_answer_of, stamp_of}
use Rattle.mt_answer.specs.Judging.{is_put_object, len_of, md5_of, refusal_of, stored_len, stores_body}

-- the digest of each body of a state is that of the bytes that are read
abbrev pub IsDigested : Reading → State Body → Type 0
IsDigested read s = OfState (λ b. b.md5 ≡ md5 (read b)) s

-- how many bytes are stored of a request that isn't refused, and has a body of so many
abbrev pub body_len : Doing → ℕ → ℕ
body_len d len = if is_put_object d then len else 0

-- ---- over references and over bytes

-- a request is refused for the same cause over both
abbrev pub RefusalsAreRead : Type 0
RefusalsAreRead = (read : Reading) → KeepsSize read → (request : Request) (rows : Rows Body) (c : Conditions) (digest : Option (List ℕ))
    → refusal_of length request (rows_with read rows) c digest ≡ refusal_of len_of request rows c digest

-- and stores its body alike
abbrev pub StoringIsRead : Type 0
StoringIsRead = (read : Reading) → KeepsSize read → (request : Request) (rows : Rows Body) (c : Conditions)
    → stores_body length request (rows_with read rows) c ≡ stores_body len_of request rows c

-- the answer over bytes is that over references, where the body that is stored, if it is, stands for the bytes of the request
abbrev pub AnswersAreRead : Type 0
AnswersAreRead = (read : Reading) → KeepsSize read → (request : Request) (limit : ℕ) (s : State Body) (used : ℕ) (head : Head) (body : Body) (bytes : List ℕ) (moment : ℕ)
    → IsDigested read s → (stores_body len_of request s.rows (conditions_of head.fields) ≡ true → read body ≡ bytes)
    → rows_answer_of request limit (state_with read s) used head bytes moment ≡ answer_with read (answer_in len_of md5_of request limit s used head body (md5 bytes) moment)

-- a request that is refused, whatever of its body was stored
abbrev pub RefusedIsRead : Type 0
RefusedIsRead = (read : Reading) → KeepsSize read → (request : Request) (limit : ℕ) (s : State Body) (used : ℕ) (head : Head) (bytes : List ℕ) (moment : ℕ) (r : Refused)
    → refusal_of len_of request s.rows (conditions_of head.fields) (Some (md5 bytes)) ≡ Some r
    → rows_answer_of request limit (state_with read s) used head bytes moment
    ≡ refuse (stamp_of head s.count moment) r limit used (stored_len len_of request s.rows (conditions_of head.fields) (length bytes))

-- a put whose body has no room, and that is refused for nothing else
abbrev pub BodyWithoutRoom : Type 0
BodyWithoutRoom = (read : Reading) → KeepsSize read → (request : Request) (limit : ℕ) (s : State Body) (used : ℕ) (head : Head) (bytes : List ℕ) (moment : ℕ)
    → stores_body len_of request s.rows (conditions_of head.fields) ≡ true
    → refusal_of len_of request s.rows (conditions_of head.fields) (Some (md5 bytes)) ≡ None
    → limit < used + pieces_size (length bytes)
    → rows_answer_of request limit (state_with read s) used head bytes moment
    ≡ refuse (stamp_of head s.count moment) (plain error.NotEnoughSpace) limit used (length bytes)

-- a request that isn't refused and needs no command
abbrev pub ShownIsRead : Type 0
ShownIsRead = (read : Reading) → KeepsSize read → (request : Request) (limit : ℕ) (s : State Body) (used : ℕ) (head : Head) (body : Body) (bytes : List ℕ) (moment : ℕ)
    → IsDigested read s → refusal_of len_of request s.rows (conditions_of head.fields) (Some (md5 bytes)) ≡ None
    → command_of s.rows request.doing body moment ≡ None
    → rows_answer_of request limit (state_with read s) used head bytes moment ≡ record {
      reply = reply_with read (reply_to len_of md5_of (stamp_of head s.count moment) s.count s.rows (conditions_of head.fields) request.doing (md5 bytes));
      added = [];
      grew = 0;
    }

-- a request whose command has room: the body of a put is the one that is stored
abbrev pub AddedIsRead : Type 0
AddedIsRead = (read : Reading) → KeepsSize read → (request : Request) (limit : ℕ) (s : State Body) (used : ℕ) (head : Head) (body : Body) (bytes : List ℕ) (moment : ℕ) (command : Command Body)
    → IsDigested read s → refusal_of len_of request s.rows (conditions_of head.fields) (Some (md5 bytes)) ≡ None
    → command_of s.rows request.doing body moment ≡ Some command → (is_put_object request.doing ≡ true → read body ≡ bytes)
    → s.count < MOST_COMMANDS → used + growth (pieces_size (body_len request.doing (length bytes))) command ≤ limit
    → rows_answer_of request limit (state_with read s) used head bytes moment ≡ record {
      reply = reply_with read (reply_to len_of md5_of (stamp_of head (s.count + 1) moment) s.count s.rows (conditions_of head.fields) request.doing (md5 bytes));
      added = command_with read command ∷ [];
      grew = growth (pieces_size (body_len request.doing (length bytes))) command;
    }

-- a request whose command has no room, behind its body where that has
abbrev pub FullIsRead : Type 0
FullIsRead = (read : Reading) → KeepsSize read → (request : Request) (limit : ℕ) (s : State Body) (used : ℕ) (head : Head) (body : Body) (bytes : List ℕ) (moment : ℕ) (command : Command Body)
    → IsDigested read s → refusal_of len_of request s.rows (conditions_of head.fields) (Some (md5 bytes)) ≡ None
    → command_of s.rows request.doing body moment ≡ Some command → (is_put_object request.doing ≡ true → read body ≡ bytes)
    → (MOST_COMMANDS ≤ s.count) ⊎ (limit < used + growth (pieces_size (body_len request.doing (length bytes))) command)
    → rows_answer_of request limit (state_with read s) used head bytes moment
    ≡ refuse (stamp_of head s.count moment) (plain error.NotEnoughSpace) limit used (body_len request.doing (length bytes))

-- ---- refusals and commands

-- what is refused before the digest of the body is known is refused with any
abbrev pub StaysRefused : Type 0
StaysRefused = (request : Request) (rows : Rows Body) (c : Conditions) (digest : List ℕ)
    → is_some (refusal_of len_of request rows c None) ≡ true → is_some (refusal_of len_of request rows c (Some digest)) ≡ true

-- the account takes the command of a request that isn't refused
abbrev pub DoneIsAllowed : Type 0
DoneIsAllowed = (login : List ℕ) (head : Head) (request : Request) (s : State Body) (c : Conditions) (digest : Option (List ℕ)) (body : Body) (moment : ℕ) (command : Command Body)
    → asked_of login head ≡ asked.Rows request → refusal_of len_of request s.rows c digest ≡ None → command_of s.rows request.doing body moment ≡ Some command
    → allowed len_of s command ≡ None

-- ---- what a put is told

-- the number, the moment and the digest of the object that then stands at its path
abbrev pub PutIsTold : Type 0
PutIsTold = (stamp : Stamp) (s : State Body) (c : Conditions) (p : AccountPath) (content_type : List ℕ) (durability : Option ℕ) (metadata : List Field) (body : Body) (o : Object Body)
    → object_at (step s (Put p content_type body durability metadata stamp.moment)).rows p ≡ Some o
    → reply_to len_of md5_of stamp s.count s.rows c (PutObject p content_type durability metadata) body.md5 ≡ stored_reply stamp o.number o.mtime o.body.md5

-- so is a link, of an object at its source
abbrev pub LinkIsTold : Type 0
LinkIsTold = (stamp : Stamp) (s : State Body) (c : Conditions) (p source : AccountPath) (sum : List ℕ) (x o : Object Body) → object_at s.rows source ≡ Some x
    → object_at (step s (Link p source stamp.moment)).rows p ≡ Some o
    → reply_to len_of md5_of stamp s.count s.rows c (PutLink p source) sum ≡ stored_reply stamp o.number o.mtime o.body.md5

-- ---- what replies ask of the rows

-- each row can be told: its moment has a date, and the number of its object an identifier
abbrev pub AreListable : Rows Body → Type 0
AreListable rows = AllByRecursion (λ r. IsEntryListable r.1) rows

-- the rows of a lawful state within its limits can be told
abbrev pub LawfulIsListable : Type 0
LawfulIsListable = (s : State Body) → Lawful s → KeepsLimits s → s.count ≤ MOST_COMMANDS → AreListable s.rows
