-- What the parts of one exchange do: a head is read, a reply is sent, a refusal is written, a turn is taken; and the whole of it.
use Rattle.std.specs.Prelude.{◌≡◌, ◌⊎◌, ℕ, ◌-◌, ◌<◌, ◌≤◌, Bool, true, [], ◌∷◌, length, take, drop, false, Option, IfSome, is_some, Err}
use Rattle.std.specs.Option.{ForSome}
use Rattle.mt_base.specs.Counts.{NeverFell, Rose}
use Rattle.mt_base.specs.Lists.{IsPrefixOf}
use Rattle.mt_body.specs.Stored.{bytes_of, is_stored}
use Rattle.mt_disk.specs.CrashModel.{LeavesOnly}
use Rattle.mt_disk.specs.Files.{Files}
use Rattle.mt_edge.specs.Stream.{GotMore, LeftAfter, WritesFront}
use Rattle.mt_opening.specs.Current.{EngineState, IsBetween, Over}
use Rattle.mt_opening.specs.History.{Bytes, History}
use Rattle.mt_http.specs.Framing.{Place, PlaceAt, ReceivesHead, SpellsHead}
use Rattle.mt_http.specs.Options.{interim, interim_line, wants_interim}
use Rattle.mt_http.specs.ReplyText.{text_with}
use Rattle.mt_http.specs.declared.message.Head.{Head}
use Rattle.mt_log.specs.LogState.{told}
use Rattle.mt_model.specs.State.{State}
use Rattle.mt_types.specs.declared.body.Body.{Body}
use Rattle.mt_types.specs.declared.reply.Reply.{Reply}
use Rattle.mt_types.specs.declared.reply.ReplyBody.{ReplyBody}
use Rattle.mt_types.specs.declared.reply.ReplyBody.TheVariants.{Held, Part}
use Rattle.mt_runner.specs.declared.turn.Turn.{Turn}
use Rattle.mt_runner.specs.declared.turn.Turn.TheVariants as turn
use Rattle.mt_connection.specs.Endings.{Cut, Ends, Images, IsCut, IsCutEarly, IsRefused, IsTruncated, IsUnread, Quiet, Refusing, Unanswered}
use Rattle.mt_connection.specs.Sides.{LinkSide, NoneFell, Sides}
use Rattle.mt_connection.specs.Transcript.{Exchange, Ran, Setting, Stand, closing, is_head, setting, still}
use Rattle.mt_connection.specs.declared.end.ConnectionEnd.{ConnectionEnd}
use Rattle.mt_connection.specs.declared.end.ConnectionEnd.TheVariants as ended
use Rattle.mt_connection.specs.declared.end.Step.{Step}
use Rattle.mt_connection.specs.declared.end.Step.TheVariants as step
use Rattle.mt_connection.specs.declared.receive.Received.{Received}
use Rattle.mt_connection.specs.declared.receive.Received.TheVariants as received

-- These are the bytes of the body of a reply. Where the disk tells nothing, of a part only how many.
abbrev pub IsBodyOf : Option Files → ReplyBody Body → Bytes → Type 0
IsBodyOf seen (Held held) bytes = bytes ≡ held
IsBodyOf seen (Part body from to) bytes = (length bytes ≡ to - from) × ForSome (told seen) (λ ps. bytes ≡ take (to - from) (drop from (bytes_of ps body)))

-- a part lies in a body that stands in the log
abbrev pub CanBeRead : Option Files → ReplyBody Body → Type 0
CanBeRead seen (Held held) = Unit {0}
CanBeRead seen (Part body from to) = (from ≤ to) × (to ≤ body.len) × ForSome (told seen) (λ ps. is_stored ps body ≡ true)

-- the same reply, which holds the bytes of its body
pub record Loads (seen : Option Files) (reply held : Reply Body) : Type 0 where
  pub bytes : Bytes
  pub body : IsBodyOf seen reply.body bytes
  pub held_is : held ≡ record reply { body = Held bytes }

-- the bytes of a reply to this head whose body has these bytes
abbrev pub text_to : Reply Body → Bytes → Head → Bytes
text_to reply body head = text_with reply.status reply.fields reply.closes body (is_head head)

-- The sending of this text, as the last of an exchange after which the connection closes or goes on: all of it was written, or a
-- front of it before a fault, or for want of memory nothing.
abbrev pub Sends : Bool → Bytes → Step → (got got' : Option Bytes) → (write_faults write_faults' disk_faults disk_faults' : ℕ) → Type 0
Sends closing text (step.Went closed) got got' w w' d d' = (closed ≡ closing) × GotMore got text got' × NeverFell w w' × NeverFell d d'
Sends closing text (step.Over ended.SinkFault) got got' w w' d d' = WritesFront got text got' × Rose w w' × NeverFell d d'
Sends closing text (step.Over ended.Disk) got got' w w' d d' = WritesFront got text got' × NeverFell w w' × Rose d d'
Sends closing text (step.Over ended.Memory) got got' w w' d d' = (got' ≡ got) × NeverFell w w' × NeverFell d d'
Sends closing text _ got got' w w' d d' = ⊥

-- the writing of a refusal
abbrev pub Refuses : Bytes → Step → (got got' : Option Bytes) → (write_faults write_faults' : ℕ) → Type 0
Refuses text (step.Over ended.Refused) got got' w w' = GotMore got text got' × NeverFell w w'
Refuses text (step.Over ended.SinkFault) got got' w w' = WritesFront got text got' × Rose w w'
Refuses text (step.Over ended.Memory) got got' w w' = (got' ≡ got) × NeverFell w w'
Refuses text _ got got' w w' = ⊥

-- the reading of a head, and the interim reply behind it
abbrev pub Receives : Received → LinkSide → LinkSide → Type 0
Receives (received.Head head) old new =
    ((read : Bytes) × LeftAfter old.left read new.left × SpellsHead read head) × GotMore old.got (interim head) new.got
    × NeverFell old.read_faults new.read_faults × NeverFell old.write_faults new.write_faults
Receives (received.Nothing end) old new =
    ReceivesHead old.left old.read_faults (Err end) new.left new.read_faults × (new.got ≡ old.got) × (new.write_faults ≡ old.write_faults)
Receives received.SinkFault old new =
    ((head : Head) × (wants_interim head ≡ true) × (read : Bytes) × LeftAfter old.left read new.left × SpellsHead read head) × WritesFront old.got interim_line new.got
    × NeverFell old.read_faults new.read_faults × Rose old.write_faults new.write_faults

-- The setting of one message until its turn: no turn is taken, and nothing is said of children.
abbrev pub plain : Bool → Bool → (ℕ → ℕ → Type 0) → Bytes → (slots limit : ℕ) → State Bytes → Setting
plain hears knows moments login slots limit base = still (setting hears knows moments (λ run input raw. ⊥) login slots limit base)

-- how a message ends its connection before a turn, or that none stands there
abbrev pub Stops : Setting → (ℕ → Files → Type 0) → Sides → ConnectionEnd → Sides → Type 0
Stops s since old ended.Ended new = IfSome old.left (λ bytes. PlaceAt bytes Place.End) × Quiet old new
Stops s since old ended.Truncated new = IsTruncated s old new
Stops s since old ended.Refused new = IsRefused s since old new
Stops s since old ended.SourceFault new = IsUnread s old new
Stops s since old ended.SinkFault new = ((IsCut s since old new ⊎ IsCutEarly old new) ⊎ Refusing s since old new) × Rose old.write_faults new.write_faults
Stops s since old ended.Disk new = (Cut s since old new ⊎ Unanswered old new) × Rose old.disk_faults new.disk_faults
Stops s since old ended.Memory new = Cut s since old new ⊎ Unanswered old new
Stops s since old _ new = ⊥

-- One message before its turn: it was answered, or the connection is over.
abbrev pub TakesMessage : Setting → (ℕ → Files → Type 0) → (Files → Type 0) → Sides → Step → Sides → Type 0
TakesMessage s since images old (step.Went closed) new =
    (x : Exchange) × (closing x ≡ closed) × Ran s old (x ∷ []) new × Stand s since old.history old.time (x ∷ []) new.time
TakesMessage s since images old (step.Over end) new = Stops s since old end new × NoneFell old new × (s.knows ≡ true → Images end s.base new.history images)

-- how a connection goes on behind the turn of a message after which it closes or goes on
abbrev pub step_of_turn : Bool → Turn → Step
step_of_turn closing turn.Full = step.Over ended.Full
step_of_turn closing turn.Disk = step.Over ended.Disk
step_of_turn closing turn.Memory = step.Over ended.Memory
step_of_turn closing _ = step.Went closing

-- One step of a connection: a whole exchange, or the end. Images are what a crash now may leave, and since at some moment from one on.
abbrev pub Stepped : Setting → (ℕ → Files → Type 0) → (Files → Type 0) → Sides → Step → Sides → Type 0
Stepped s since images old (step.Went closed) new =
    (x : Exchange) × (closing x ≡ closed) × Ran s old (x ∷ []) new × Stand s since old.history old.time (x ∷ []) new.time
Stepped s since images old (step.Over end) new =
    ((most : ℕ) → 0 < most → Ends s since most [] old end new) × NoneFell old new × (s.knows ≡ true → Images end s.base new.history images)

-- What a call over a base led to: the history goes on from h to k, the engine stands for k where it is open, and a crash at any moment of
-- the call leaves a history between.
pub record MovesOn {D : Type 0} (seen : D → Option Files) (moment : D → ℕ) (left_since : D → ℕ → Files → Type 0) (disk disk' : D) (engine' : EngineState) (base : State Bytes) (h k : History) : Type 0 where
  pub over : engine'.log.closed ≡ false → Over (seen disk') engine' base k
  pub front : IsPrefixOf h k
  pub any_moment : is_some (seen disk) ≡ true → LeavesOnly moment left_since disk disk' (IsBetween base h k)

-- a head has no more fields than this
abbrev pub HasFewFields : Received → Type 0
HasFewFields (received.Head head) = length head.fields ≤ 100
HasFewFields (received.Nothing end) = Unit {0}
HasFewFields received.SinkFault = Unit {0}
