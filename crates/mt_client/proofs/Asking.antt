-- A request goes out, and then a reply is read.
use Rattle.std.proofs.Common.{◌≡◌, ℕ, List, [], ◌++◌, Option, Some, Result, Ok, Err, inl, refl, sym, subst, ap, ◌∙◌, append_assoc, append-nil, arith, length-append}
use Rattle.mt_base.specs.Counts.{NeverFell}
use Rattle.mt_edge.specs.Stream.{GotMore, WritesFront}
use Rattle.mt_edge.proofs.Streams.{got_nothing}
use Rattle.mt_ask.specs.declared.ask.PageAsk.{PageAsk}
use Rattle.mt_ask.specs.declared.ask.Words.{Words}
use Rattle.mt_ask.specs.Requests.{request_head}
use Rattle.mt_page.specs.declared.row.PageRow.{PageRow}
use Rattle.mt_response.specs.declared.reply.ReplyReadEnd.{ReplyReadEnd}
use Rattle.mt_response.specs.declared.reply.ReplyReadEnd.TheVariants as read_end
use Rattle.mt_script.specs.declared.end.ClientEnd.{ClientEnd}
use Rattle.mt_script.specs.declared.end.ClientEnd.TheVariants as end
use Rattle.mt_script.specs.declared.end.Closing.{Closing}
use Rattle.mt_script.specs.Script.{page_of}
use Rattle.mt_client.specs.declared.exchange.Reply.{Reply}
use Rattle.mt_client.specs.Exchanges.{Asks, AsksPage, GotFront, ReceivesReply, answered, body_limit, link_end}

-- a front of the first piece is one of both
pub front_of_both : (got : Option (List ℕ)) (head body : List ℕ) (got' : Option (List ℕ)) → WritesFront got head got' → WritesFront got (head ++ body) got'
front_of_both got head body got' front = record {
  written = front.written;
  front = (front.front.0 ++ body, sym (append_assoc front.written front.front.0 body) ∙ ap (λ l. l ++ body) front.front.1);
  short = omega (arith, length-append head body, front.short);
  grew = front.grew;
}

pub front_got : (got : Option (List ℕ)) (bytes : List ℕ) (got' : Option (List ℕ)) → WritesFront got bytes got' → GotFront got bytes got'
front_got got bytes got' front = (front.written, front.front, front.grew)

pub all_got : (got : Option (List ℕ)) (bytes : List ℕ) (got' : Option (List ℕ)) → GotMore got bytes got' → GotFront got bytes got'
all_got got bytes got' more = (bytes, ([], append-nil bytes), more)

-- nothing was got yet
pub nothing_got : (got : Option (List ℕ)) (bytes : List ℕ) → GotFront got bytes got
nothing_got got bytes = ([], (bytes, refl), got_nothing got)

-- what was sent stays so while the link is read
pub sent_on : (got : Option (List ℕ)) (request : List ℕ) (sent sent' : Option (List ℕ)) → GotMore got request sent → sent' ≡ sent → GotMore got request sent'
sent_on got request sent sent' more same = subst (λ (o : Option (List ℕ)). GotMore got request o) (sym same) more

pub quiet_on : (faults between faults' : ℕ) → NeverFell faults between → faults' ≡ between → NeverFell faults faults'
quiet_on faults between faults' quiet same = subst (λ (n : ℕ). NeverFell faults n) (sym same) quiet

-- what is left stays so while the link is written to
pub receives_at : (limit : ℕ) (mid left : Option (List ℕ)) (between reads : ℕ) (x : Result Reply ReplyReadEnd) (left' : Option (List ℕ)) (reads' : ℕ) → mid ≡ left → between ≡ reads → ReceivesReply limit mid between x left' reads'
    → ReceivesReply limit left reads x left' reads'
receives_at limit mid left between reads x left' reads' same_left same_reads read =
    subst (λ (n : ℕ). ReceivesReply limit left n x left' reads') same_reads (subst (λ (o : Option (List ℕ)). ReceivesReply limit o between x left' reads') same_left read)

module _ (limit : ℕ) (request : List ℕ) (left : Option (List ℕ)) (reads : ℕ) (got : Option (List ℕ)) (writes : ℕ) (left' : Option (List ℕ)) (reads' : ℕ) (got' : Option (List ℕ)) (writes' : ℕ) (more : GotMore got request got') (quiet : NeverFell writes writes') where
  -- a reply came to it
  pub asked : (reply : Reply) → ReceivesReply limit left reads (Ok reply) left' reads' → Asks limit request left reads got writes (Ok reply) left' reads' got' writes'
  asked reply read = (read.0, more, read.1, quiet)

  -- or none
  unanswered_so : (e : ReplyReadEnd) → ReceivesReply limit left reads (Err e) left' reads' → Asks limit request left reads got writes (Err (link_end e)) left' reads' got' writes'
  unanswered_so read_end.NoReply read = (read.0, more, read.1, quiet)
  unanswered_so read_end.LinkFault read = (all_got got request got' more, inl read)
  unanswered_so read_end.Memory read = (all_got got request got' more, read, quiet)

  pub unanswered : (e : ReplyReadEnd) (x : ClientEnd) → x ≡ link_end e → ReceivesReply limit left reads (Err e) left' reads' → Asks limit request left reads got writes (Err x) left' reads' got' writes'
  unanswered e x is read = subst (λ (y : ClientEnd). Asks limit request left reads got writes (Err y) left' reads' got' writes') (sym is) (unanswered_so e read)

-- the same request
pub asks_as : (limit : ℕ) (one other : List ℕ) (left : Option (List ℕ)) (reads : ℕ) (got : Option (List ℕ)) (writes : ℕ) (x : Result Reply ClientEnd) (left' : Option (List ℕ)) (reads' : ℕ) (got' : Option (List ℕ)) (writes' : ℕ)
    → one ≡ other → Asks limit one left reads got writes x left' reads' got' writes' → Asks limit other left reads got writes x left' reads' got' writes'
asks_as limit one other left reads got writes x left' reads' got' writes' same asks = subst (λ (r : List ℕ). Asks limit r left reads got writes x left' reads' got' writes') same asks

-- the head of a page's request has no body behind it
pub no_body : (bytes text wanted : List ℕ) → text ≡ bytes → bytes ≡ wanted → text ++ [] ≡ wanted
no_body bytes text wanted same is = append-nil text ∙ (same ∙ is)

-- a page was asked for
module _ (w : Words) (ask : PageAsk) (left : Option (List ℕ)) (reads : ℕ) (got : Option (List ℕ)) (writes : ℕ) (left' : Option (List ℕ)) (reads' : ℕ) (got' : Option (List ℕ)) (writes' : ℕ) where
  pub page_asked : (reply : Reply) (page : Result (List PageRow) Closing) (body : List ℕ) → Asks body_limit (request_head w (Some ask) 0) left reads got writes (Ok reply) left' reads' got' writes' → body ≡ reply.body
      → page ≡ page_of ask reply.head body → AsksPage w ask left reads got writes (Ok page) left' reads' got' writes'
  page_asked reply page body asks same is = (answered reply, asks.0, sym (is ∙ ap (page_of ask reply.head) same), asks.1, asks.2, asks.3)

  -- and there was no memory to judge it
  pub page_unjudged : (reply : Reply) → Asks body_limit (request_head w (Some ask) 0) left reads got writes (Ok reply) left' reads' got' writes' → AsksPage w ask left reads got writes (Err end.Memory) left' reads' got' writes'
  page_unjudged reply asks = (all_got got (request_head w (Some ask) 0) got' asks.1, asks.2, asks.3)
