-- One request and its reply: what went out on a link and came in on it, and what of that was written.
use Rattle.std.specs.Prelude.{◌≡◌, ℕ, ◌<◌, ◌≤◌, ◌⊎◌, false, List, [], ◌++◌, length, Option, Some, IfSome, Result, Ok, Err}
use Rattle.mt_base.specs.Counts.{NeverFell, Rose}
use Rattle.mt_base.specs.Lists.{IsPrefixOf}
use Rattle.mt_edge.specs.Stream.{GotMore, LeftAfter, WritesFront}
use Rattle.mt_ask.specs.declared.ask.PageAsk.{PageAsk}
use Rattle.mt_ask.specs.declared.ask.Words.{Words}
use Rattle.mt_ask.specs.Requests.{request_head}
use Rattle.mt_page.specs.declared.row.PageRow.{PageRow}
use Rattle.mt_response.specs.declared.reply.ReplyReadEnd.{ReplyReadEnd}
use Rattle.mt_response.specs.declared.reply.ReplyReadEnd.TheVariants as read_end
use Rattle.mt_response.specs.Reading.{Moved, Spells}
use Rattle.mt_response.specs.Replies.{Answered, LeadsTo, ReplyAt, length_in, most_interim}
use Rattle.mt_script.specs.declared.end.ClientEnd.{ClientEnd}
use Rattle.mt_script.specs.declared.end.ClientEnd.TheVariants as end
use Rattle.mt_script.specs.declared.end.Closing.{Closing}
use Rattle.mt_script.specs.Levels.{Listed}
use Rattle.mt_script.specs.Script.{once_of, page_of, went_levels, went_text}
use Rattle.mt_client.specs.declared.exchange.Lead.{Lead}
use Rattle.mt_client.specs.declared.exchange.Reply.{Reply}

-- the bytes of the body of a page, of an answer and of a refusal
abbrev pub body_limit : ℕ
body_limit = 16777216

-- the bytes of an object
abbrev pub object_limit : ℕ
object_limit = 1073741824

-- ---- a reply

-- a reply that was read
abbrev pub answered : Reply → Answered
answered r = record { head = r.head; body = r.body }

-- these bytes are a reply, whatever follows them
abbrev pub SpellsReply : ℕ → List ℕ → Answered → Type 0
SpellsReply limit used reply = (rest : List ℕ) → ReplyAt limit false (used ++ rest) reply rest

-- no reply is there
abbrev pub LacksReply : ℕ → List ℕ → Type 0
LacksReply limit bytes = (reply : Answered) (rest : List ℕ) → ¬ (ReplyAt limit false bytes reply rest)

-- these bytes are the head of a reply with a body of so many bytes, whatever follows them
pub record IsLead (limit : ℕ) (used : List ℕ) (lead : Lead) : Type 0 where
  pub spelled : Spells most_interim used lead.head
  pub told : length_in limit false lead.head ≡ Some lead.len

-- the head of a reply with a body of so many bytes, and then the rest
pub record LeadAt (limit : ℕ) (bytes : List ℕ) (lead : Lead) (rest : List ℕ) : Type 0 where
  pub leads : LeadsTo most_interim bytes lead.head rest
  pub told : length_in limit false lead.head ≡ Some lead.len

-- no such head is there
abbrev pub LacksLead : ℕ → List ℕ → Type 0
LacksLead limit bytes = (lead : Lead) (rest : List ℕ) → ¬ (LeadAt limit bytes lead rest)

-- the head of a reply is read
abbrev pub Leads : ℕ → Option (List ℕ) → ℕ → Result Lead ReplyReadEnd → Option (List ℕ) → ℕ → Type 0
Leads limit left faults (Ok lead) left' faults' = ((used : List ℕ) × LeftAfter left used left' × IsLead limit used lead) × NeverFell faults faults'
Leads limit left faults (Err read_end.NoReply) left' faults' = IfSome left (LacksLead limit) × NeverFell faults faults'
Leads limit left faults (Err read_end.LinkFault) left' faults' = Rose faults faults'
Leads limit left faults (Err read_end.Memory) left' faults' = NeverFell faults faults'

-- a reply is read
abbrev pub ReceivesReply : ℕ → Option (List ℕ) → ℕ → Result Reply ReplyReadEnd → Option (List ℕ) → ℕ → Type 0
ReceivesReply limit left faults (Ok reply) left' faults' = ((used : List ℕ) × LeftAfter left used left' × SpellsReply limit used (answered reply)) × NeverFell faults faults'
ReceivesReply limit left faults (Err read_end.NoReply) left' faults' = IfSome left (LacksReply limit) × NeverFell faults faults'
ReceivesReply limit left faults (Err read_end.LinkFault) left' faults' = Rose faults faults'
ReceivesReply limit left faults (Err read_end.Memory) left' faults' = NeverFell faults faults'

-- how a run ends where no reply was read
abbrev pub link_end : ReplyReadEnd → ClientEnd
link_end read_end.NoReply = end.BadReply
link_end read_end.LinkFault = end.LinkFault
link_end read_end.Memory = end.Memory

-- ---- a request and its reply

-- a front of the bytes came at the end, or all of them
abbrev pub GotFront : Option (List ℕ) → List ℕ → Option (List ℕ) → Type 0
GotFront got bytes got' = (part : List ℕ) × IsPrefixOf part bytes × GotMore got part got'

-- no reply came to a request: what was left of the link, its faults in reading, what it got, its faults in writing; the end; and after
abbrev pub AskFails : ℕ → List ℕ → Option (List ℕ) → ℕ → Option (List ℕ) → ℕ → ClientEnd → Option (List ℕ) → ℕ → Option (List ℕ) → ℕ → Type 0
AskFails limit request left reads got writes end.BadReply left' reads' got' writes' = IfSome left (LacksReply limit) × GotMore got request got' × NeverFell reads reads' × NeverFell writes writes'
AskFails limit request left reads got writes end.LinkFault left' reads' got' writes' = GotFront got request got' × (Rose reads reads' ⊎ Rose writes writes')
AskFails limit request left reads got writes end.Memory left' reads' got' writes' = GotFront got request got' × NeverFell reads reads' × NeverFell writes writes'
AskFails limit request left reads got writes e left' reads' got' writes' = ⊥

-- a request went out and a reply came, or none
abbrev pub Asks : ℕ → List ℕ → Option (List ℕ) → ℕ → Option (List ℕ) → ℕ → Result Reply ClientEnd → Option (List ℕ) → ℕ → Option (List ℕ) → ℕ → Type 0
Asks limit request left reads got writes (Ok reply) left' reads' got' writes' =
    ((used : List ℕ) × LeftAfter left used left' × SpellsReply limit used (answered reply)) × GotMore got request got' × NeverFell reads reads' × NeverFell writes writes'
Asks limit request left reads got writes (Err e) left' reads' got' writes' = AskFails limit request left reads got writes e left' reads' got' writes'

-- a page was asked for, and what came was judged
abbrev pub AsksPage : Words → PageAsk → Option (List ℕ) → ℕ → Option (List ℕ) → ℕ → Result (Result (List PageRow) Closing) ClientEnd → Option (List ℕ) → ℕ → Option (List ℕ) → ℕ → Type 0
AsksPage w ask left reads got writes (Ok page) left' reads' got' writes' =
    (reply : Answered) × ((used : List ℕ) × LeftAfter left used left' × SpellsReply body_limit used reply) × (page_of ask reply.head reply.body ≡ page) × GotMore got (request_head w (Some ask) 0) got' × NeverFell reads reads' × NeverFell writes writes'
AsksPage w ask left reads got writes (Err e) left' reads' got' writes' = AskFails body_limit (request_head w (Some ask) 0) left reads got writes e left' reads' got' writes'

-- ---- what is written

-- a text is written: what the sink got and its faults, the answer, and after
abbrev pub HandsOn : List ℕ → Option (List ℕ) → ℕ → Result (Unit {0}) ClientEnd → Option (List ℕ) → ℕ → Type 0
HandsOn text got faults (Ok _) got' faults' = GotMore got text got' × NeverFell faults faults'
HandsOn text got faults (Err e) got' faults' = (e ≡ end.SinkFault) × WritesFront got text got' × Rose faults faults'

-- a text is written, and then the run ends so; or it isn't, for want of memory
pub data Finishes (text : List ℕ) (said : ClientEnd) (got : Option (List ℕ)) (faults : ℕ) (e : ClientEnd) (got' : Option (List ℕ)) (faults' : ℕ) : Type 0 where
  Written : (e ≡ said) → GotMore got text got' → NeverFell faults faults' → Finishes text said got faults e got' faults'
  Spilled : (e ≡ end.SinkFault) → WritesFront got text got' → Rose faults faults' → Finishes text said got faults e got' faults'
  Starved : (e ≡ end.Memory) → (got' ≡ got) → (faults' ≡ faults) → Finishes text said got faults e got' faults'

-- the page of the first level is shown: what the sink got and its faults, the answer, the levels, and after
abbrev pub Shows : Words → List Listed → Result (List PageRow) Closing → Option (List ℕ) → ℕ → Result (Unit {0}) ClientEnd → List Listed → Option (List ℕ) → ℕ → Type 0
Shows w levels (Ok rows) got faults (Ok _) levels' got' faults' = (levels' ≡ went_levels w levels rows) × GotMore got (went_text w levels rows) got' × NeverFell faults faults'
Shows w levels (Ok rows) got faults (Err e) levels' got' faults' = ((e ≡ end.SinkFault) × WritesFront got (went_text w levels rows) got' × Rose faults faults') ⊎ ((e ≡ end.Memory) × (got' ≡ got) × (faults' ≡ faults))
Shows w levels (Err with_text) got faults (Ok _) levels' got' faults' = ⊥
Shows w levels (Err with_text) got faults (Err e) levels' got' faults' = Finishes with_text.text with_text.end got faults e got' faults'

-- ---- a body that is still on the link

-- it is copied to the sink: what was left of the link and its faults, what the sink got and its faults, the end, and after
abbrev pub CopiesBody : ℕ → Option (List ℕ) → ℕ → Option (List ℕ) → ℕ → ClientEnd → Option (List ℕ) → ℕ → Option (List ℕ) → ℕ → Type 0
CopiesBody len left reads got spills end.Done left' reads' got' spills' = (body : List ℕ) × (length body ≡ len) × Moved left got body left' got'
CopiesBody len left reads got spills end.BadReply left' reads' got' spills' = (body : List ℕ) × (length body < len) × Moved left got body left' got' × IfSome left' (λ rest. rest ≡ [])
CopiesBody len left reads got spills end.LinkFault left' reads' got' spills' = (body : List ℕ) × (length body < len) × Moved left got body left' got' × Rose reads reads'
CopiesBody len left reads got spills end.SinkFault left' reads' got' spills' = (body : List ℕ) × (length body ≤ len) × LeftAfter left body left' × WritesFront got body got' × Rose spills spills'
CopiesBody len left reads got spills e left' reads' got' spills' = ⊥

-- it is read, and what the reply shows is written
pub data Rests (w : Words) (lead : Lead) (left : Option (List ℕ)) (reads : ℕ) (got : Option (List ℕ)) (spills : ℕ) (e : ClientEnd) (left' : Option (List ℕ)) (reads' : ℕ) (got' : Option (List ℕ)) (spills' : ℕ) : Type 0 where
  Whole : (body : List ℕ) → (length body ≡ lead.len) → LeftAfter left body left' → Finishes (once_of w lead.head body).text (once_of w lead.head body).end got spills e got' spills' → Rests w lead left reads got spills e left' reads' got' spills'
  Short : (e ≡ end.BadReply) → IfSome left (λ bytes. length bytes < lead.len) → (got' ≡ got) → Rests w lead left reads got spills e left' reads' got' spills'
  Failed : (e ≡ end.LinkFault) → Rose reads reads' → (got' ≡ got) → Rests w lead left reads got spills e left' reads' got' spills'
  Starved : (e ≡ end.Memory) → (got' ≡ got) → Rests w lead left reads got spills e left' reads' got' spills'
