-- Words of one request: what they send, write and answer.
use Rattle.std.specs.Prelude.{◌≡◌, ◌≢◌, ℕ, ◌<◌, ◌≤◌, Bool, true, false, List, [], ◌++◌, length, None, IfSome, Result, Err}
use Rattle.std.specs.Bool.{MatchBool}
use Rattle.mt_base.specs.Counts.{Rose}
use Rattle.mt_edge.specs.Stream.{GotMore, LeftAfter, WritesFront}
use Rattle.mt_ask.specs.declared.ask.Ask.{Ask}
use Rattle.mt_ask.specs.declared.ask.Ask.TheVariants as asks
use Rattle.mt_ask.specs.declared.ask.Words.{Words}
use Rattle.mt_ask.specs.Requests.{request_head}
use Rattle.mt_response.specs.Replies.{Answered}
use Rattle.mt_script.specs.declared.end.ClientEnd.{ClientEnd}
use Rattle.mt_script.specs.declared.end.ClientEnd.TheVariants as end
use Rattle.mt_script.specs.declared.end.Closing.{Closing}
use Rattle.mt_script.specs.Script.{is_success, once_of}
use Rattle.mt_client.specs.declared.exchange.Lead.{Lead}
use Rattle.mt_client.specs.Exchanges.{IsLead, LeadAt, body_limit, object_limit}
use Rattle.mt_client.specs.Requests.{Broken, RequestEnds, Sides, Starved}

-- the request of words that aren't a listing, whose source has these bytes
abbrev pub request_once : Words → List ℕ → List ℕ
request_once w input = request_head w None (length input) ++ input

abbrev pub judged_once : Words → Answered → Result (List ℕ) Closing
judged_once w reply = Err (once_of w reply.head reply.body)

-- the head of a reply of the wanted status came, whose body has so many bytes, and these of them
pub record Copying (w : Words) (request : List ℕ) (a : Sides) (len : ℕ) (body : List ℕ) (b : Sides) : Type 0 where
  pub lead : Lead
  pub size : lead.len ≡ len
  pub fine : is_success w.ask lead.head ≡ true
  pub used : List ℕ
  pub spelled : IsLead object_limit used lead
  pub gone : LeftAfter a.left (used ++ body) b.left
  pub sent : GotMore a.sent request b.sent

-- the body of the reply was copied as it came
abbrev pub PlaysCopy : Words → List ℕ → Sides → ClientEnd → Sides → Type 0
PlaysCopy w request a end.Done b = (body : List ℕ) × Copying w request a (length body) body b × GotMore a.written body b.written
PlaysCopy w request a end.BadReply b = (len : ℕ) × (body : List ℕ) × (length body < len) × Copying w request a len body b × IfSome b.left (λ rest. rest ≡ []) × GotMore a.written body b.written
PlaysCopy w request a end.LinkFault b = (len : ℕ) × (body : List ℕ) × (length body < len) × Copying w request a len body b × Rose a.reads b.reads × GotMore a.written body b.written
PlaysCopy w request a end.SinkFault b = (len : ℕ) × (body : List ℕ) × (length body ≤ len) × Copying w request a len body b × Rose a.spills b.spills × WritesFront a.written body b.written
PlaysCopy w request a e b = ⊥

-- no head of a reply of the wanted status is there
abbrev pub LacksObject : Words → List ℕ → Type 0
LacksObject w bytes = (lead : Lead) (rest : List ℕ) → LeadAt object_limit bytes lead rest → is_success w.ask lead.head ≢ true

-- HOW `mget` PLAYS: a reply of the wanted status is copied, and any other read whole; or the link or memory failed before a head was read
pub data PlaysGet (w : Words) (request : List ℕ) (a : Sides) (e : ClientEnd) (b : Sides) : Type 0 where
  ByCopy : PlaysCopy w request a e b → PlaysGet w request a e b
  ByOther : IfSome a.left (LacksObject w) → RequestEnds object_limit request (judged_once w) a e b → PlaysGet w request a e b
  ByBreak : (e ≡ end.LinkFault) → Broken request a b → PlaysGet w request a e b
  ByMemory : (e ≡ end.Memory) → Starved request a b → PlaysGet w request a e b

-- the object is copied as it comes
abbrev pub is_copy : Ask → Bool
is_copy (asks.List p) = false
is_copy (asks.Find p) = false
is_copy (asks.Get p) = true
is_copy (asks.Put p) = false
is_copy (asks.MakeDirectory p) = false
is_copy (asks.Remove p) = false
is_copy (asks.Link source p) = false
is_copy asks.CreateJob = false
is_copy (asks.AddInputs number) = false
is_copy (asks.EndInput number) = false
is_copy (asks.CancelJob number) = false
is_copy (asks.JobStatus number) = false
is_copy (asks.JobOutputs number) = false

-- HOW WORDS OF ONE REQUEST PLAY, whose source has these bytes
abbrev pub PlaysOnce : Words → List ℕ → Sides → ClientEnd → Sides → Type 0
PlaysOnce w input a e b =
    MatchBool (is_copy w.ask) (PlaysGet w (request_once w input) a e b) (RequestEnds body_limit (request_once w input) (judged_once w) a e b)
