-- A reply is read: its head, and then its body.
use Rattle.std.proofs.Common.{◌≡◌, ℕ, false, List, ◌++◌, Option, Some, None, Ok, Err, arith}
use Rattle.mt_edge.proofs.Streams.{left_after}
use Rattle.mt_response.specs.declared.reply.ReplyHead.{ReplyHead}
use Rattle.mt_response.specs.declared.reply.ReplyReadEnd.{ReplyReadEnd}
use Rattle.mt_response.specs.declared.reply.ReplyReadEnd.TheVariants as read_end
use Rattle.mt_response.specs.Reading.{Receives, ReceivesBody}
use Rattle.mt_response.specs.Replies.{length_in, most_interim}
use Rattle.mt_client.specs.declared.exchange.Lead.{Lead}
use Rattle.mt_client.specs.Exchanges.{Leads, ReceivesReply}
use Rattle.mt_client.proofs.Replies.{body_spelled, lacks_body, lacks_heads, lacks_leads, lacks_length}

module _ (limit : ℕ) (left : Option (List ℕ)) (faults : ℕ) where
  -- ---- a head

  pub head_fails : (e : ReplyReadEnd) (left' : Option (List ℕ)) (faults' : ℕ) → Receives most_interim left faults (Err e) left' faults' → Leads limit left faults (Err e) left' faults'
  head_fails read_end.NoReply left' faults' read = (lacks_heads limit left read.0, read.1)
  head_fails read_end.LinkFault left' faults' read = read
  head_fails read_end.Memory left' faults' read = read

  pub head_told : (head : ReplyHead) (len : ℕ) (left' : Option (List ℕ)) (faults' : ℕ) → Receives most_interim left faults (Ok head) left' faults' → length_in limit false head ≡ Some len → Leads limit left faults (Ok (record { head = head; len = len })) left' faults'
  head_told head len left' faults' read told = ((read.0.0, read.0.1, record { spelled = read.0.2; told = told }), read.1)

  pub head_untold : (head : ReplyHead) (left' : Option (List ℕ)) (faults' : ℕ) → Receives most_interim left faults (Ok head) left' faults' → length_in limit false head ≡ None → Leads limit left faults (Err read_end.NoReply) left' faults'
  head_untold head left' faults' read untold = (lacks_length limit left read.0.0 left' head read.0.1 read.0.2 untold, read.1)

  -- ---- and its body

  pub reply_fails : (e : ReplyReadEnd) (left' : Option (List ℕ)) (faults' : ℕ) → Leads limit left faults (Err e) left' faults' → ReceivesReply limit left faults (Err e) left' faults'
  reply_fails read_end.NoReply left' faults' read = (lacks_leads limit left read.0, read.1)
  reply_fails read_end.LinkFault left' faults' read = read
  reply_fails read_end.Memory left' faults' read = read

  module _ (lead : Lead) (mid : Option (List ℕ)) (between : ℕ) (leads : Leads limit left faults (Ok lead) mid between) (left' : Option (List ℕ)) (faults' : ℕ) where
    pub reply_cut : (e : ReplyReadEnd) → ReceivesBody lead.len mid between (Err e) left' faults' → ReceivesReply limit left faults (Err e) left' faults'
    reply_cut read_end.NoReply read = (lacks_body limit left leads.0.0 mid lead leads.0.1 leads.0.2 read.0, omega (arith, leads.1, read.1))
    reply_cut read_end.LinkFault read = omega (arith, leads.1, read)
    reply_cut read_end.Memory read = omega (arith, leads.1, read)

    pub reply_whole : (body : List ℕ) → ReceivesBody lead.len mid between (Ok body) left' faults' → ReceivesReply limit left faults (Ok (record { head = lead.head; body = body })) left' faults'
    reply_whole body read = (
      (leads.0.0 ++ body, left_after left leads.0.0 mid body left' leads.0.1 read.1, body_spelled limit leads.0.0 body lead leads.0.2 read.0),
      omega (arith, leads.1, read.2),
    )
