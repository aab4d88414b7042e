-- How a connection ends, and what a crash may leave then.
use Rattle.std.specs.Prelude.{◌≡◌, ◌≢◌, ◌⊎◌, ℕ, ◌+◌, ◌<◌, ◌≤◌, true, false, List, [], ◌∷◌, ◌++◌, length, Option, Some, None, IfSome, IsTrue}
use Rattle.std.specs.List.{list_any}
use Rattle.mt_answer.specs.Answer.{Answer}
use Rattle.mt_answer.specs.Judging.{stored_asked}
use Rattle.mt_base.specs.Counts.{Rose}
use Rattle.mt_base.specs.Lists.{IsPrefixOf}
use Rattle.mt_body.specs.Stored.{pieces_that_fit}
use Rattle.mt_cond.specs.Conditions.{conditions_of}
use Rattle.mt_disk.specs.Files.{Files}
use Rattle.mt_edge.specs.Stream.{LeftAfter, GotMore}
use Rattle.mt_opening.specs.Current.{HasNearly}
use Rattle.mt_opening.specs.History.{Bytes, HasHistory, History, position}
use Rattle.mt_error.specs.Refusals.{plain}
use Rattle.mt_error.specs.declared.code.ErrorCode.{ErrorCode}
use Rattle.mt_error.specs.declared.code.ErrorCode.TheVariants as error
use Rattle.mt_http.specs.Framing.{Place, PlaceAt, RequestAt, SpellsHead, body_of}
use Rattle.mt_http.specs.Messages.{HasNoRequest, InterimAt}
use Rattle.mt_http.specs.Options.{interim, interim_line}
use Rattle.mt_http.specs.ReplyText.{reply_text}
use Rattle.mt_http.specs.declared.message.Head.{Head}
use Rattle.mt_model.specs.CommandStep.{replay}
use Rattle.mt_model.specs.State.{State}
use Rattle.mt_reply.specs.Replies.{error_reply}
use Rattle.mt_request.specs.Requests.{asked_of}
use Rattle.mt_connection.specs.Outcomes.{ByEnd}
use Rattle.mt_runner.specs.Account.{AccountSide}
use Rattle.mt_runner.specs.Turning.{Broke, IsFull, Unmoved}
use Rattle.mt_connection.specs.Sides.{NoneFell, Sides, account_of, link_of}
use Rattle.mt_connection.specs.Transcript.{Exchange, HoldsSince, IsTheAnswer, Ran, Setting, SpellsBoth, Stand, closing, is_head, still, working}
use Rattle.mt_connection.specs.declared.end.ConnectionEnd.{ConnectionEnd}
use Rattle.mt_connection.specs.declared.end.ConnectionEnd.TheVariants as ended

-- nothing was added or written
pub record Quiet (old new : Sides) : Type 0 where
  pub history : new.history ≡ old.history
  pub used : new.used ≡ old.used
  pub got : new.got ≡ old.got

-- Nothing was added, and nothing was written but the interim reply of the message at the front, or a front of it.
pub record Unanswered (old new : Sides) : Type 0 where
  pub sent : Bytes
  pub sink : GotMore old.got sent new.got
  pub part : IsPrefixOf sent interim_line
  pub asked_for : (sent ≡ []) ⊎ IfSome old.left (λ bytes. InterimAt bytes interim_line)
  pub history : new.history ≡ old.history

-- this is the whole interim reply of the message at the front, or nothing where it has none
abbrev pub IsInterim : Option Bytes → Bytes → Type 0
IsInterim left sent = ((sent ≡ []) ⊎ (sent ≡ interim_line)) × IfSome left (λ bytes. InterimAt bytes sent)

-- By how much the log grows where this came of a body and its message is not answered: by the pieces that had room, of a put that
-- its head and the account take.
abbrev pub left_behind : Setting → History → ℕ → Head → Bytes → ℕ
left_behind s h used head came =
    pieces_that_fit s.limit used (stored_asked length (asked_of s.login head) (replay s.base h).rows (conditions_of head.fields) (length came))

-- this head stands at the front, and its body has these bytes, or these and more
abbrev pub CameAt : Option Bytes → Head → Bytes → Type 0
CameAt left head came = IfSome left (λ bytes. (rest : Bytes) × RequestAt bytes head rest × IsPrefixOf came (body_of head rest).body)

-- and these are all that its body has
abbrev pub AllCameAt : Option Bytes → Head → Bytes → Type 0
AllCameAt left head came = IfSome left (λ bytes. (rest : Bytes) × RequestAt bytes head rest × ((body_of head rest).body ≡ came))

-- a head was read, and so much of its body, which came so
abbrev pub GrewBy : Setting → (Option Bytes → Head → Bytes → Type 0) → Sides → Sides → Type 0
GrewBy s came_at old new = (head : Head) × (came : Bytes) × came_at old.left head came × (s.knows ≡ true → new.used ≡ old.used + left_behind s old.history old.used head came)

-- no head was read and the log is as it was, or it has what was stored of the body that came
abbrev pub KeepsPieces : Setting → Sides → Sides → Type 0
KeepsPieces s old new = (IfSome old.left HasNoRequest × (new.used ≡ old.used)) ⊎ GrewBy s AllCameAt old new

-- At a moment between these the disk has a history; where bytes that tell of it were written, each image of each later moment has it.
pub record Settled (s : Setting) (since : ℕ → Files → Type 0) (old new : Sides) (written : Bytes) (h : History) : Type 0 where
  pub settled : ℕ
  pub from : old.time ≤ settled
  pub to : settled ≤ new.time
  pub holds : s.knows ≡ true → written ≢ [] → HoldsSince since settled s.base h

-- One more message was read and its command stands, if it has one, but its reply was cut off: these bytes of it were written.
pub record Cut (s : Setting) (since : ℕ → Files → Type 0) (old new : Sides) : Type 0 where
  pub read : Bytes
  pub head : Head
  pub body : Bytes
  pub moment : ℕ
  pub answer : Answer Bytes
  pub written : Bytes
  pub is_read : s.hears ≡ true → SpellsBoth read head body
  pub source : LeftAfter old.left read new.left
  pub given : s.moments old.asked moment
  pub answered : IsTheAnswer s old.history old.used head body moment answer
  pub front : IsPrefixOf written (reply_text answer.reply (is_head head))
  pub sink : GotMore old.got (interim head ++ written) new.got
  pub history : new.history ≡ old.history ++ answer.added
  pub stands : Settled s since old new written new.history

-- the error by which what stands at a place is refused
abbrev pub refusal_at : Place → Option ErrorCode
refusal_at Place.Bad = Some error.BadRequest
refusal_at Place.TooLarge = Some error.RequestEntityTooLarge
refusal_at Place.End = None
refusal_at Place.Truncated = None
refusal_at (Place.Whole message rest) = None

-- the bytes of the one reply before a connection is refused: always with its body, and closing
abbrev pub refusal_text : ErrorCode → ℕ → ℕ → Bytes
refusal_text code count moment = reply_text (error_reply {B = Bytes} (record { position = count; moment = moment; closes = true }) (plain code)) false

-- No message stands at the front: it is refused behind its interim reply. These bytes of the refusal were written.
pub record Refusing (s : Setting) (since : ℕ → Files → Type 0) (old new : Sides) : Type 0 where
  pub place : Place
  pub code : ErrorCode
  pub count : ℕ
  pub moment : ℕ
  pub sent : Bytes
  pub written : Bytes
  pub here : IfSome old.left (λ bytes. PlaceAt bytes place)
  pub why : refusal_at place ≡ Some code
  pub position : s.knows ≡ true → count ≡ position s.base old.history
  pub given : s.moments old.asked moment
  pub before : IsInterim old.left sent
  pub front : IsPrefixOf written (refusal_text code count moment)
  pub sink : GotMore old.got (sent ++ written) new.got
  pub history : new.history ≡ old.history
  pub stands : Settled s since old new written old.history
  pub pieces : KeepsPieces s old new

-- the refusal was written whole
abbrev pub IsRefused : Setting → (ℕ → Files → Type 0) → Sides → Sides → Type 0
IsRefused s since old new = (r : Refusing s since old new) × (r.written ≡ refusal_text r.code r.count r.moment)

-- One more message was answered, its reply was written whole, and the turn behind it did this.
pub record Halted (s : Setting) (since : ℕ → Files → Type 0) (old new : Sides) (Did : AccountSide → AccountSide → Type 0) : Type 0 where
  pub exchange : Exchange
  pub middle : Sides
  pub answered : Ran (still s) old (exchange ∷ []) middle
  pub stand : Stand s since old.history old.time (exchange ∷ []) middle.time
  pub did : Did (account_of middle) (account_of new)
  pub link : link_of new ≡ link_of middle

-- none of these messages closes, and one more may be read
pub record IsOpen (most : ℕ) (xs : List Exchange) : Type 0 where
  pub none : list_any closing xs ≡ false
  pub few : length xs < most

-- the last message closes, and nothing behind it was read; or nothing more stands there
abbrev pub IsAtEnd : ℕ → List Exchange → Sides → Sides → Type 0
IsAtEnd most xs old new =
    (IsTrue (list_any closing xs) × (length xs ≤ most) × (new.left ≡ old.left)) ⊎ (IsOpen most xs × IfSome old.left (λ bytes. PlaceAt bytes Place.End))

-- the source ended within a message
abbrev pub IsTruncated : Setting → Sides → Sides → Type 0
IsTruncated s old new = (u : Unanswered old new) × IsInterim old.left u.sent × KeepsPieces s old new × IfSome old.left (λ bytes. PlaceAt bytes Place.Truncated)

-- the source failed within a message or before it
abbrev pub IsUnread : Setting → Sides → Sides → Type 0
IsUnread s old new = (u : Unanswered old new) × ((u.sent ≡ []) ⊎ IsInterim old.left u.sent) × ((new.used ≡ old.used) ⊎ GrewBy s CameAt old new) × Rose old.read_faults new.read_faults

-- the sink failed within a reply, whose command counts
abbrev pub IsCut : Setting → (ℕ → Files → Type 0) → Sides → Sides → Type 0
IsCut s since old new = (c : Cut s since old new) × (new.used ≡ old.used + c.answer.grew)

-- a head was read, and nothing behind it
abbrev pub ReadsHead : Sides → Sides → Type 0
ReadsHead old new = (head : Head) × (read : Bytes) × LeftAfter old.left read new.left × SpellsHead read head

-- the sink failed within the interim reply
abbrev pub IsCutEarly : Sides → Sides → Type 0
IsCutEarly old new = Unanswered old new × (new.used ≡ old.used) × ReadsHead old new

-- How a connection ended, once these exchanges led to old: from there to new.
--   end            what was read besides     what was written besides              history; length of the log
--   Ended, Many    nothing                   nothing                               as they were
--   Truncated      a message's front         its interim reply                     as it was; with what was stored of its body
--   Refused        what is no message        its interim reply, the refusal        the same
--   SourceFault    any front                 its interim reply or nothing          as it was; the same, or as it was
--   SinkFault      a message                 its interim reply, a front of its reply    with its command
--                  its head                  a front of its interim reply          as they were
--                  what is no message        its interim reply, a front of the refusal    as it was; with what was stored of its body
--   Full           a message                 its interim reply, its reply          with its command; the turn behind it added nothing
--   Disk, Memory   a message                 its interim reply, a front of its reply    with its command
--                  any front                 a front of its interim reply          as it was
--                  a message                 its interim reply, its reply          with its command; of Disk, that of the turn behind it stands or not
abbrev pub Ends : Setting → (ℕ → Files → Type 0) → ℕ → List Exchange → Sides → ConnectionEnd → Sides → Type 0
Ends s since most xs old ended.Ended new = IsAtEnd most xs old new × Quiet old new
Ends s since most xs old ended.Many new = (list_any closing xs ≡ false) × (length xs ≡ most) × (new.left ≡ old.left) × Quiet old new
Ends s since most xs old ended.Truncated new = IsOpen most xs × IsTruncated s old new
Ends s since most xs old ended.Refused new = IsOpen most xs × IsRefused s since old new
Ends s since most xs old ended.SourceFault new = IsOpen most xs × IsUnread s old new
Ends s since most xs old ended.SinkFault new = IsOpen most xs × ((IsCut s since old new ⊎ IsCutEarly old new) ⊎ Refusing s since old new) × Rose old.write_faults new.write_faults
Ends s since most xs old ended.Full new = IsOpen most xs × Halted s since old new (IsFull (working s))
Ends s since most xs old ended.Disk new = IsOpen most xs × ((Cut s since old new ⊎ Unanswered old new) ⊎ Halted s since old new (Broke (working s))) × Rose old.disk_faults new.disk_faults
Ends s since most xs old ended.Memory new = IsOpen most xs × ((Cut s since old new ⊎ Unanswered old new) ⊎ Halted s since old new Unmoved)

-- an end that names a fault comes only where the count of what failed rose
abbrev pub ByFault : ConnectionEnd → (read write disk : Type 0) → Type 0
ByFault ended.SourceFault read write disk = read
ByFault ended.SinkFault read write disk = write
ByFault ended.Disk read write disk = disk
ByFault _ read write disk = Unit {0}

-- One connection: exchanges, and then its end, which is the one to which its bytes lead. From a moment within its exchange on each image
-- has what a reply tells of.
pub record Served (s : Setting) (since : ℕ → Files → Type 0) (most : ℕ) (old : Sides) (end : ConnectionEnd) (new : Sides) : Type 0 where
  pub exchanges : List Exchange
  pub middle : Sides
  pub ran : Ran s old exchanges middle
  pub stand : Stand s since old.history old.time exchanges middle.time
  pub counts : NoneFell middle new
  pub ends : Ends s since most exchanges middle end new
  pub by_bytes : IfSome old.left (λ bytes. ByEnd most bytes end)

-- what a crash may leave at the end of a connection: all of its history, but where the disk has failed
abbrev pub Images : ConnectionEnd → State Bytes → (whole : History) → (Files → Type 0) → Type 0
Images ended.Disk base whole images = (c : Files) → images c → HasNearly base whole c
Images _ base whole images = (c : Files) → images c → HasHistory base whole c
