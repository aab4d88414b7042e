-- A request and what ends a run behind it, over what comes on the link.
use Rattle.std.specs.Prelude.{◌≡◌, ℕ, ◌⊎◌, List, Option, IfSome, Result, Ok, Err}
use Rattle.mt_base.specs.Counts.{NeverFell, Rose}
use Rattle.mt_edge.specs.Stream.{GotMore, LeftAfter, WritesFront}
use Rattle.mt_response.specs.Replies.{Answered}
use Rattle.mt_script.specs.declared.end.ClientEnd.{ClientEnd}
use Rattle.mt_script.specs.declared.end.ClientEnd.TheVariants as end
use Rattle.mt_script.specs.declared.end.Closing.{Closing}
use Rattle.mt_script.specs.Ends.{with_text}
use Rattle.mt_client.specs.Exchanges.{GotFront, LacksReply, SpellsReply}

-- what a run sees: what is left of its link, what the link got, what the sink got, and the counts of faults: of the link in reading and in writing, of the sink
pub record Sides : Type 0 where
  pub left : Option (List ℕ)
  pub reads : ℕ
  pub sent : Option (List ℕ)
  pub writes : ℕ
  pub written : Option (List ℕ)
  pub spills : ℕ

-- the sides of a link and a sink
abbrev pub sides_of : {L K : Type 0} → (left : L → Option (List ℕ)) (reads : L → ℕ) (sent : L → Option (List ℕ)) (writes : L → ℕ) (written : K → Option (List ℕ)) (spills : K → ℕ) → L → K → Sides
sides_of left reads sent writes written spills link sink = record { left = left link; reads = reads link; sent = sent link; writes = writes link; written = written sink; spills = spills sink }

-- no count fell
pub record Quiet (a b : Sides) : Type 0 where
  pub of_reads : NeverFell a.reads b.reads
  pub of_writes : NeverFell a.writes b.writes
  pub of_spills : NeverFell a.spills b.spills

-- ---- one request

-- the request went out and this reply came
pub record Heard (limit : ℕ) (request : List ℕ) (a : Sides) (reply : Answered) (b : Sides) : Type 0 where
  pub used : List ℕ
  pub gone : LeftAfter a.left used b.left
  pub spelled : SpellsReply limit used reply
  pub sent : GotMore a.sent request b.sent

-- it came, ends the run, and what it shows was written
pub record Said (limit : ℕ) (request : List ℕ) (judged : Answered → Result (List ℕ) Closing) (a : Sides) (e : ClientEnd) (b : Sides) : Type 0 where
  pub reply : Answered
  pub text : List ℕ
  pub heard : Heard limit request a reply b
  pub says : judged reply ≡ Err (with_text text e)
  pub written : GotMore a.written text b.written

-- what the reply shows, whether or not it ends the run
abbrev pub text_of : Result (List ℕ) Closing → List ℕ
text_of (Ok text) = text
text_of (Err e) = e.text

-- the sink failed behind a front of what a reply shows
pub record Spilled (limit : ℕ) (request : List ℕ) (judged : Answered → Result (List ℕ) Closing) (a b : Sides) : Type 0 where
  pub reply : Answered
  pub heard : Heard limit request a reply b
  pub front : WritesFront a.written (text_of (judged reply)) b.written
  pub rose : Rose a.spills b.spills

-- the request went out, and no reply came
pub record Unheard (limit : ℕ) (request : List ℕ) (a b : Sides) : Type 0 where
  pub none : IfSome a.left (LacksReply limit)
  pub sent : GotMore a.sent request b.sent
  pub written : b.written ≡ a.written

-- the link failed, behind a front of the request or all of it
pub record Broken (request : List ℕ) (a b : Sides) : Type 0 where
  pub sent : GotFront a.sent request b.sent
  pub written : b.written ≡ a.written
  pub rose : Rose a.reads b.reads ⊎ Rose a.writes b.writes

-- memory was lacking
pub record Starved (request : List ℕ) (a b : Sides) : Type 0 where
  pub sent : GotFront a.sent request b.sent
  pub written : b.written ≡ a.written

-- HOW A REQUEST ENDS A RUN: `judged` is what a reply shows where the run goes on, or what it ends with
pub data RequestEnds (limit : ℕ) (request : List ℕ) (judged : Answered → Result (List ℕ) Closing) (a : Sides) (e : ClientEnd) (b : Sides) : Type 0 where
  BySaid : Said limit request judged a e b → RequestEnds limit request judged a e b
  BySpill : (e ≡ end.SinkFault) → Spilled limit request judged a b → RequestEnds limit request judged a e b
  ByUnheard : (e ≡ end.BadReply) → Unheard limit request a b → RequestEnds limit request judged a e b
  ByBreak : (e ≡ end.LinkFault) → Broken request a b → RequestEnds limit request judged a e b
  ByMemory : (e ≡ end.Memory) → Starved request a b → RequestEnds limit request judged a e b
