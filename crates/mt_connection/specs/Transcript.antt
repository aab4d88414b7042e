-- What was said on a connection: exchanges of a message and its reply, one after another.
use Rattle.std.specs.Prelude.{◌≡◌, ℕ, ◌+◌, ◌≤◌, Bool, true, ◌||◌, List, [], ◌∷◌, ◌++◌, bytes_eq, codes}
use Rattle.std.specs.Bool.{MatchBool}
use Rattle.std.specs.List.{flat_map}
use Rattle.mt_answer.specs.Answer.{Answer}
use Rattle.mt_answer.specs.Whole.{answer_of}
use Rattle.mt_base.specs.Counts.{RoseBy}
use Rattle.mt_disk.specs.Files.{Files}
use Rattle.mt_edge.specs.Stream.{LeftAfter, GotMore}
use Rattle.mt_opening.specs.Current.{HasFront}
use Rattle.mt_opening.specs.History.{Bytes, History}
use Rattle.mt_http.specs.Framing.{RequestAt, body_of}
use Rattle.mt_http.specs.Options.{closes, interim}
use Rattle.mt_http.specs.ReplyText.{has_no_body, reply_text}
use Rattle.mt_http.specs.declared.message.Ending.TheVariants.{Whole}
use Rattle.mt_http.specs.declared.message.Head.{Head}
use Rattle.mt_model.specs.CommandStep.{replay}
use Rattle.mt_model.specs.State.{State}
use Rattle.mt_runner.specs.Account.{asked_again}
use Rattle.mt_types.specs.declared.task.Raw.{Raw}
use Rattle.mt_types.specs.declared.task.Run.{Run as ChildRun}
use Rattle.mt_connection.specs.Sides.{NoneFell, Sides}
use Rattle.mt_runner.specs.Turning.{MayTurn, TurnTaken, Working, companies, no_turn, working_of}

-- what stays the same while a connection is served
pub record Setting : Type 1 where
  -- whether the link tells what is left to be read, and whether the disk tells what it holds
  pub hears : Bool
  pub knows : Bool
  -- the moments that the call of a number of the clock may give
  pub moments : ℕ → ℕ → Type 0
  -- the outcomes that a child may give, run so on these bytes
  pub runs : ChildRun → Bytes → Raw → Type 0
  pub login : Bytes
  -- how many children run at once
  pub slots : ℕ
  -- how many bytes the log may have
  pub limit : ℕ
  -- the state behind which the history stands
  pub base : State Bytes
  -- the turns that may follow a history, a log of so many bytes and so many calls of the clock
  pub turned : History → ℕ → ℕ → TurnTaken → Type 0

-- what stays the same over its turns
abbrev pub working : Setting → Working
working s = working_of s.knows s.moments s.runs s.login s.slots s.limit s.base

-- a setting in which a turn follows each message
abbrev pub setting : Bool → Bool → (ℕ → ℕ → Type 0) → (ChildRun → Bytes → Raw → Type 0) → Bytes → (slots limit : ℕ) → State Bytes → Setting
setting hears knows moments runs login slots limit base = record {
  hears = hears;
  knows = knows;
  moments = moments;
  runs = runs;
  login = login;
  slots = slots;
  limit = limit;
  base = base;
  turned = MayTurn (working_of knows moments runs login slots limit base);
}

-- the same setting without turns
abbrev pub still : Setting → Setting
still s = record s { turned = λ history used asked turn. turn ≡ no_turn asked }

-- one message with its answer: a reply, the commands that stand before it, and by how much the log grew; and the turn behind it
pub record Exchange : Type 0 where
  -- the message's bytes, its head and its body
  pub read : Bytes
  pub head : Head
  pub body : Bytes
  pub moment : ℕ
  pub answer : Answer Bytes
  -- the disk's moment at which its answer was there
  pub settled : ℕ
  pub turn : TurnTaken

-- the request is a HEAD: its reply has no body
abbrev pub is_head : Head → Bool
is_head head = bytes_eq head.method (codes "HEAD")

-- a reply of this status to it has no body
abbrev pub is_bare : ℕ → Head → Bool
is_bare status head = is_head head || has_no_body status

abbrev pub read_of : Exchange → Bytes
read_of x = x.read

-- the interim reply where the head asks for it, and the reply
abbrev pub said_by : Exchange → Bytes
said_by x = interim x.head ++ reply_text x.answer.reply (is_head x.head)

abbrev pub commands_of : Exchange → History
commands_of x = x.answer.added ++ x.turn.added

abbrev pub growth_of : Exchange → ℕ
growth_of x = x.answer.grew + x.turn.grew

-- by how much the log grew in all, and how many turns missed a task
abbrev pub grown : List Exchange → ℕ
grown [] = 0
grown (x ∷ xs) = growth_of x + grown xs

abbrev pub missed : List Exchange → ℕ
missed [] = 0
missed (x ∷ xs) = x.turn.missed + missed xs

-- how often the clock was asked once they were over
abbrev pub asked_in : ℕ → List Exchange → ℕ
asked_in asked [] = asked
asked_in asked (x ∷ xs) = asked_in x.turn.asked xs

-- no message follows it
abbrev pub closing : Exchange → Bool
closing x = closes x.head.minor x.head.fields

-- these bytes are this head and this body, whatever follows them
abbrev pub SpellsBoth : Bytes → Head → Bytes → Type 0
SpellsBoth read head body = (rest : Bytes) → (behind : Bytes) × RequestAt (read ++ rest) head behind × (body_of head behind ≡ record { body = body; ending = Whole; rest = rest })

-- Where the disk tells what it holds, this is the answer over this history and a log of so many bytes. Else nothing is told of
-- commands: the reply has the bytes that were sent.
abbrev pub IsTheAnswer : Setting → History → ℕ → Head → Bytes → ℕ → Answer Bytes → Type 0
IsTheAnswer s h used head body moment answer =
    MatchBool s.knows (answer ≡ answer_of s.login s.limit (replay s.base h) used head body moment) ((answer.added ≡ []) × (answer.grew ≡ 0))

-- This exchange may happen over this history, a log of so many bytes and so many calls of the clock: one call is for it, and its turn
-- comes behind.
pub record IsExchange (s : Setting) (h : History) (used asked : ℕ) (x : Exchange) : Type 0 where
  pub is_read : s.hears ≡ true → SpellsBoth x.read x.head x.body
  pub given : s.moments asked x.moment
  pub answered : IsTheAnswer s h used x.head x.body x.moment x.answer
  pub turned : s.turned (h ++ x.answer.added) (used + x.answer.grew) (asked_again asked) x.turn

-- these exchanges may happen one after another, and none follows one that closes
abbrev pub Run : Setting → History → (used asked : ℕ) → List Exchange → Type 0
Run s h used asked [] = Unit {0}
Run s h used asked (x ∷ xs) = IsExchange s h used asked x × (closing x ≡ true → xs ≡ []) × Run s (h ++ commands_of x) (used + growth_of x) x.turn.asked xs

-- these exchanges lead from old to new
pub record Ran (s : Setting) (old : Sides) (xs : List Exchange) (new : Sides) : Type 0 where
  pub run : Run s old.history old.used old.asked xs
  pub history : new.history ≡ old.history ++ flat_map commands_of xs
  pub used : new.used ≡ old.used + grown xs
  pub asked : new.asked ≡ asked_in old.asked xs
  pub source : LeftAfter old.left (flat_map read_of xs) new.left
  pub sink : GotMore old.got (flat_map said_by xs) new.got
  pub missed : RoseBy (missed xs) (old.tasks.waits + old.tasks.faults) (new.tasks.waits + new.tasks.faults)
  pub company : RoseBy (companies s.slots (replay s.base old.history) (flat_map commands_of xs)) old.tasks.company new.tasks.company
  pub counts : NoneFell old new

-- at each moment from this one on a crash leaves a history that begins so
abbrev pub HoldsSince : (ℕ → Files → Type 0) → ℕ → State Bytes → History → Type 0
HoldsSince since t base h = (c : Files) → since t c → HasFront base c h

-- Between these moments of the disk each answer was there before the next message: from then on each image has the commands that its
-- reply tells of.
abbrev pub Stand : Setting → (ℕ → Files → Type 0) → History → (from : ℕ) → List Exchange → (to : ℕ) → Type 0
Stand s since h from [] to = from ≤ to
Stand s since h from (x ∷ xs) to =
    (from ≤ x.settled) × (s.knows ≡ true → HoldsSince since x.settled s.base (h ++ x.answer.added)) × Stand s since (h ++ commands_of x) x.settled xs to
