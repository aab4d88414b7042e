-- An object is copied as it comes, and a refusal is read.
use Rattle.std.proofs.Common.{◌≡◌, ℕ, true, false, List, ◌++◌, Option, Result, Ok, Err, inl, refl, sym, subst, arith}
use Rattle.mt_edge.specs.Stream.{GotMore}
use Rattle.mt_edge.proofs.Streams.{left_after}
use Rattle.mt_ask.specs.declared.ask.Words.{Words}
use Rattle.mt_response.specs.declared.reply.ReplyReadEnd.{ReplyReadEnd}
use Rattle.mt_response.specs.declared.reply.ReplyReadEnd.TheVariants as read_end
use Rattle.mt_response.specs.Reading.{ReceivesBody}
use Rattle.mt_script.specs.declared.end.ClientEnd.{ClientEnd}
use Rattle.mt_script.specs.declared.end.ClientEnd.TheVariants as end
use Rattle.mt_script.specs.Script.{is_success, once_of}
use Rattle.mt_client.specs.declared.exchange.Lead.{Lead}
use Rattle.mt_client.specs.Exchanges.{CopiesBody, Finishes, Leads, Rests, link_end, object_limit}
use Rattle.mt_client.specs.Once.{PlaysCopy, PlaysGet, judged_once}
use Rattle.mt_client.specs.Requests.{RequestEnds, Sides}
use Rattle.mt_client.proofs.Asking.{all_got}
use Rattle.mt_client.proofs.Closings.{says_end}
use Rattle.mt_client.proofs.Replies.{body_spelled, lacks_body, lacks_leads, lacks_object, lacks_objects}

-- what is left stays so while the link is written to
pub leads_at : (limit : ℕ) (mid left : Option (List ℕ)) (between reads : ℕ) (x : Result Lead ReplyReadEnd) (left' : Option (List ℕ)) (reads' : ℕ) → mid ≡ left → between ≡ reads → Leads limit mid between x left' reads'
    → Leads limit left reads x left' reads'
leads_at limit mid left between reads x left' reads' same_left same_reads leads =
    subst (λ (n : ℕ). Leads limit left n x left' reads') same_reads (subst (λ (o : Option (List ℕ)). Leads limit o between x left' reads') same_left leads)

-- a body that didn't come
rest_fails_so : (w : Words) (lead : Lead) (left : Option (List ℕ)) (reads : ℕ) (got : Option (List ℕ)) (spills : ℕ) (e : ReplyReadEnd) (left' : Option (List ℕ)) (reads' : ℕ) → ReceivesBody lead.len left reads (Err e) left' reads'
    → Rests w lead left reads got spills (link_end e) left' reads' got spills
rest_fails_so w lead left reads got spills read_end.NoReply left' reads' read = Rests.Short refl read.0 refl
rest_fails_so w lead left reads got spills read_end.LinkFault left' reads' read = Rests.Failed refl read refl
rest_fails_so w lead left reads got spills read_end.Memory left' reads' read = Rests.Starved refl refl

pub rest_fails : (w : Words) (lead : Lead) (left : Option (List ℕ)) (reads : ℕ) (got : Option (List ℕ)) (spills : ℕ) (e : ReplyReadEnd) (x : ClientEnd) (left' : Option (List ℕ)) (reads' : ℕ) → x ≡ link_end e
    → ReceivesBody lead.len left reads (Err e) left' reads' → Rests w lead left reads got spills x left' reads' got spills
rest_fails w lead left reads got spills e x left' reads' is read = subst (λ (y : ClientEnd). Rests w lead left reads got spills y left' reads' got spills) (sym is) (rest_fails_so w lead left reads got spills e left' reads' read)

-- one that came
pub rest_whole : (w : Words) (lead : Lead) (left : Option (List ℕ)) (reads : ℕ) (got : Option (List ℕ)) (spills : ℕ) (e : ClientEnd) (left' : Option (List ℕ)) (reads' : ℕ) (got' : Option (List ℕ)) (spills' : ℕ) (body text : List ℕ)
    → ReceivesBody lead.len left reads (Ok body) left' reads' → text ≡ body → Finishes (once_of w lead.head text).text (once_of w lead.head text).end got spills e got' spills' → Rests w lead left reads got spills e left' reads' got' spills'
rest_whole w lead left reads got spills e left' reads' got' spills' body text read same finishes =
    Rests.Whole body read.0 read.1 (subst (λ (t : List ℕ). Finishes (once_of w lead.head t).text (once_of w lead.head t).end got spills e got' spills') same finishes)

module _ (w : Words) (request : List ℕ) (a b : Sides) (sent : GotMore a.sent request b.sent) where
  -- no head came
  unled_so : (e : ReplyReadEnd) → Leads object_limit a.left a.reads (Err e) b.left b.reads → b.written ≡ a.written → PlaysGet w request a (link_end e) b
  unled_so read_end.NoReply leads same = PlaysGet.ByOther (lacks_objects w a.left leads.0) (RequestEnds.ByUnheard refl (record { none = lacks_leads object_limit a.left leads.0; sent = sent; written = same }))
  unled_so read_end.LinkFault leads same = PlaysGet.ByBreak refl (record { sent = all_got a.sent request b.sent sent; written = same; rose = inl leads })
  unled_so read_end.Memory leads same = PlaysGet.ByMemory refl (record { sent = all_got a.sent request b.sent sent; written = same })

  pub unled : (e : ReplyReadEnd) (x : ClientEnd) → x ≡ link_end e → Leads object_limit a.left a.reads (Err e) b.left b.reads → b.written ≡ a.written → PlaysGet w request a x b
  unled e x is leads same = subst (λ (y : ClientEnd). PlaysGet w request a y b) (sym is) (unled_so e leads same)

  module _ (lead : Lead) (mid : Option (List ℕ)) (between : ℕ) (leads : Leads object_limit a.left a.reads (Ok lead) mid between) where
    -- its body is copied
    pub copied : (e : ClientEnd) → is_success w.ask lead.head ≡ true → CopiesBody lead.len mid between a.written a.spills e b.left b.reads b.written b.spills → PlaysCopy w request a e b
    copied end.Done fine copies = (copies.0, record { lead = lead; size = sym copies.1; fine = fine; used = leads.0.0; spelled = leads.0.2; gone = left_after _ leads.0.0 _ copies.0 _ leads.0.1 copies.2.gone; sent = sent }, copies.2.came)
    copied end.BadReply fine copies = (lead.len, copies.0, copies.1, record { lead = lead; size = refl; fine = fine; used = leads.0.0; spelled = leads.0.2; gone = left_after _ leads.0.0 _ copies.0 _ leads.0.1 copies.2.gone; sent = sent }, copies.3, copies.2.came)
    copied end.LinkFault fine copies = (lead.len, copies.0, copies.1, record { lead = lead; size = refl; fine = fine; used = leads.0.0; spelled = leads.0.2; gone = left_after _ leads.0.0 _ copies.0 _ leads.0.1 copies.2.gone; sent = sent }, omega (arith, leads.1, copies.3), copies.2.came)
    copied end.SinkFault fine copies = (lead.len, copies.0, copies.1, record { lead = lead; size = refl; fine = fine; used = leads.0.0; spelled = leads.0.2; gone = left_after _ leads.0.0 _ copies.0 _ leads.0.1 copies.2; sent = sent }, copies.4, copies.3)
    copied end.Usage fine copies = absurd copies
    copied end.Refused fine copies = absurd copies
    copied end.SourceFault fine copies = absurd copies
    copied end.TooManyRequests fine copies = absurd copies
    copied end.Memory fine copies = absurd copies
    copied end.InputTooLarge fine copies = absurd copies

    -- its body is read
    pub rested : (e : ClientEnd) → Rests w lead mid between a.written a.spills e b.left b.reads b.written b.spills → RequestEnds object_limit request (judged_once w) a e b
    rested e (Rests.Whole body size gone finishes) = says_end object_limit request (judged_once w) a b (record { head = lead.head; body = body }) (once_of w lead.head body) e (record {
      used = leads.0.0 ++ body;
      gone = left_after _ leads.0.0 _ body _ leads.0.1 gone;
      spelled = body_spelled object_limit leads.0.0 body lead leads.0.2 size;
      sent = sent;
    }) refl finishes
    rested e (Rests.Short is few same) = RequestEnds.ByUnheard is (record { none = lacks_body object_limit a.left leads.0.0 mid lead leads.0.1 leads.0.2 few; sent = sent; written = same })
    rested e (Rests.Failed is rose same) = RequestEnds.ByBreak is (record { sent = all_got a.sent request b.sent sent; written = same; rose = inl (omega (arith, leads.1, rose)) })
    rested e (Rests.Starved is same) = RequestEnds.ByMemory is (record { sent = all_got a.sent request b.sent sent; written = same })

    pub other : (e : ClientEnd) → is_success w.ask lead.head ≡ false → Rests w lead mid between a.written a.spills e b.left b.reads b.written b.spills → PlaysGet w request a e b
    other e not_fine rests = PlaysGet.ByOther (lacks_object w a.left leads.0.0 mid lead leads.0.1 leads.0.2 not_fine) (rested e rests)
