-- What is read of a reply: what was left of a link and is left, and its count of faults before and after.
use Rattle.std.specs.Prelude.{◌≡◌, ℕ, ◌<◌, ◌≤◌, List, [], ◌++◌, length, Option, Result, Ok, Err, IfSome}
use Rattle.mt_base.specs.Counts.{NeverFell, Rose}
use Rattle.mt_edge.specs.Stream.{GotMore, LeftAfter, WritesFront}
use Rattle.mt_response.specs.declared.reply.Copied.{Copied}
use Rattle.mt_response.specs.declared.reply.Copied.TheVariants as copied
use Rattle.mt_response.specs.declared.reply.ReplyHead.{ReplyHead}
use Rattle.mt_response.specs.declared.reply.ReplyReadEnd.{ReplyReadEnd}
use Rattle.mt_response.specs.declared.reply.ReplyReadEnd.TheVariants as read_end
use Rattle.mt_response.specs.Replies.{HasNone, HasNoReply, LeadsTo, StandsAt}

-- these bytes are one head, whatever follows them
abbrev pub SpellsHead : List ℕ → ReplyHead → Type 0
SpellsHead used head = (rest : List ℕ) → StandsAt (used ++ rest) head rest

-- one head, an interim one too
abbrev pub ReceivesHead : Option (List ℕ) → ℕ → Result ReplyHead ReplyReadEnd → Option (List ℕ) → ℕ → Type 0
ReceivesHead left faults (Ok head) left' faults' = ((used : List ℕ) × LeftAfter left used left' × SpellsHead used head) × NeverFell faults faults'
ReceivesHead left faults (Err read_end.NoReply) left' faults' = IfSome left HasNone × NeverFell faults faults'
ReceivesHead left faults (Err read_end.LinkFault) left' faults' = Rose faults faults'
ReceivesHead left faults (Err read_end.Memory) left' faults' = NeverFell faults faults'

-- these bytes are the head of a reply, with at most so many interim ones before it, whatever follows them
abbrev pub Spells : ℕ → List ℕ → ReplyHead → Type 0
Spells n used head = (rest : List ℕ) → LeadsTo n (used ++ rest) head rest

-- the head of a reply, behind at most so many interim ones
abbrev pub Receives : ℕ → Option (List ℕ) → ℕ → Result ReplyHead ReplyReadEnd → Option (List ℕ) → ℕ → Type 0
Receives n left faults (Ok head) left' faults' = ((used : List ℕ) × LeftAfter left used left' × Spells n used head) × NeverFell faults faults'
Receives n left faults (Err read_end.NoReply) left' faults' = IfSome left (HasNoReply n) × NeverFell faults faults'
Receives n left faults (Err read_end.LinkFault) left' faults' = Rose faults faults'
Receives n left faults (Err read_end.Memory) left' faults' = NeverFell faults faults'

-- the next bytes, so many; there are none where the link has fewer
abbrev pub ReceivesBody : ℕ → Option (List ℕ) → ℕ → Result (List ℕ) ReplyReadEnd → Option (List ℕ) → ℕ → Type 0
ReceivesBody len left faults (Ok body) left' faults' = (length body ≡ len) × LeftAfter left body left' × NeverFell faults faults'
ReceivesBody len left faults (Err read_end.NoReply) left' faults' = IfSome left (λ bytes. length bytes < len) × NeverFell faults faults'
ReceivesBody len left faults (Err read_end.LinkFault) left' faults' = Rose faults faults'
ReceivesBody len left faults (Err read_end.Memory) left' faults' = NeverFell faults faults'

-- these bytes went from the link to the sink
pub record Moved (left : Option (List ℕ)) (got : Option (List ℕ)) (body : List ℕ) (left' : Option (List ℕ)) (got' : Option (List ℕ)) : Type 0 where
  pub gone : LeftAfter left body left'
  pub came : GotMore got body got'

-- a body of so many bytes goes from a link to a sink: what was left of the one and its faults, what the other got and its faults, the answer, and after
abbrev pub Copies : ℕ → Option (List ℕ) → ℕ → Option (List ℕ) → ℕ → Copied → Option (List ℕ) → ℕ → Option (List ℕ) → ℕ → Type 0
Copies len left reads got writes copied.Whole left' reads' got' writes' =
    ((body : List ℕ) × (length body ≡ len) × Moved left got body left' got') × NeverFell reads reads' × NeverFell writes writes'
Copies len left reads got writes (copied.Ended n) left' reads' got' writes' =
    ((body : List ℕ) × (length body ≡ n) × (n < len) × Moved left got body left' got' × IfSome left' (λ rest. rest ≡ [])) × NeverFell reads reads' × NeverFell writes writes'
Copies len left reads got writes (copied.LinkFault n) left' reads' got' writes' =
    ((body : List ℕ) × (length body ≡ n) × (n < len) × Moved left got body left' got') × Rose reads reads' × NeverFell writes writes'
Copies len left reads got writes copied.SinkFault left' reads' got' writes' =
    ((body : List ℕ) × (length body ≤ len) × LeftAfter left body left' × WritesFront got body got') × NeverFell reads reads' × Rose writes writes'
