-- A reply by its head and its body.
use Rattle.std.proofs.Common.{◌≡◌, ℕ, ◌<◌, false, List, ◌++◌, length, Option, Some, None, refl, sym, subst, ap, ◌∙◌, append_assoc, arith, length-append}
use Rattle.std.specs.Prelude.{IfSome}
use Rattle.mt_edge.specs.Stream.{LeftAfter}
use Rattle.mt_edge.proofs.Streams.{if_some_before}
use Rattle.mt_response.specs.declared.reply.ReplyHead.{ReplyHead}
use Rattle.mt_response.specs.Reading.{Spells}
use Rattle.mt_response.specs.Replies.{HasNoReply, LeadsTo, length_in, most_interim}
use Rattle.mt_response.proofs.Leads.{head_one}
use Rattle.mt_client.specs.declared.exchange.Lead.{Lead}
use Rattle.mt_ask.specs.declared.ask.Words.{Words}
use Rattle.mt_script.specs.Script.{is_success}
use Rattle.mt_client.specs.Exchanges.{IsLead, LacksLead, LacksReply, SpellsReply, object_limit}
use Rattle.mt_client.specs.Once.{LacksObject}
use Rattle.mt_client.proofs.Choices.{false_true}

pub some_then : (o : Option (List ℕ)) (P Q : List ℕ → Type 0) → ((bytes : List ℕ) → P bytes → Q bytes) → IfSome o P → IfSome o Q
some_then None P Q each holds = tt
some_then (Some bytes) P Q each holds = each bytes holds

pub any_some : (o : Option (List ℕ)) (P : List ℕ → Type 0) → ((bytes : List ℕ) → P bytes) → IfSome o P
any_some None P each = tt
any_some (Some bytes) P each = each bytes

-- a head and its body are a reply
pub body_spelled : (limit : ℕ) (used body : List ℕ) (lead : Lead) → IsLead limit used lead → length body ≡ lead.len → SpellsReply limit (used ++ body) (record { head = lead.head; body = body })
body_spelled limit used body lead is size rest = record {
  behind = body ++ rest;
  leads = subst (λ (bytes : List ℕ). LeadsTo most_interim bytes lead.head (body ++ rest)) (sym (append_assoc used body rest)) (is.spelled (body ++ rest));
  told = is.told ∙ ap (λ (n : ℕ). Some n) (sym size);
  split = refl;
}

-- where no head is, none that tells a length is, and where that is not, no reply is
no_head : (limit : ℕ) (bytes : List ℕ) → HasNoReply most_interim bytes → LacksLead limit bytes
no_head limit bytes none lead rest at = none lead.head rest at.leads

pub lacks_heads : (limit : ℕ) (left : Option (List ℕ)) → IfSome left (HasNoReply most_interim) → IfSome left (LacksLead limit)
lacks_heads limit left = some_then left (HasNoReply most_interim) (LacksLead limit) (no_head limit)

no_reply : (limit : ℕ) (bytes : List ℕ) → LacksLead limit bytes → LacksReply limit bytes
no_reply limit bytes none reply rest at = none (record { head = reply.head; len = length reply.body }) at.behind (record { leads = at.leads; told = at.told })

pub lacks_leads : (limit : ℕ) (left : Option (List ℕ)) → IfSome left (LacksLead limit) → IfSome left (LacksReply limit)
lacks_leads limit left = some_then left (LacksLead limit) (LacksReply limit) (no_reply limit)

-- where its length isn't told, no head is that tells one
no_some : (n : ℕ) (o : Option ℕ) → o ≡ None → o ≡ Some n → ⊥
no_some n None is some = cc
no_some n (Some m) is some = cc

pub lacks_length : (limit : ℕ) (left : Option (List ℕ)) (used : List ℕ) (left' : Option (List ℕ)) (head : ReplyHead) → LeftAfter left used left' → Spells most_interim used head → length_in limit false head ≡ None → IfSome left (LacksLead limit)
lacks_length limit left used left' head gone spelled untold = if_some_before (LacksLead limit) left used left' gone (any_some left' (λ rest. LacksLead limit (used ++ rest)) none)
  where
    none : (rest : List ℕ) → LacksLead limit (used ++ rest)
    none rest lead more at =
        let same : lead.head ≡ head = (head_one most_interim (used ++ rest) lead.head head more rest at.leads (spelled rest)).0 in
        no_some lead.len (length_in limit false head) untold (ap (length_in limit false) (sym same) ∙ at.told)

-- where a head of another status is, none of the wanted one is
pub lacks_object : (w : Words) (left : Option (List ℕ)) (used : List ℕ) (left' : Option (List ℕ)) (lead : Lead) → LeftAfter left used left' → IsLead object_limit used lead → is_success w.ask lead.head ≡ false → IfSome left (LacksObject w)
lacks_object w left used left' lead gone is other = if_some_before (LacksObject w) left used left' gone (any_some left' (λ rest. LacksObject w (used ++ rest)) none)
  where
    none : (rest : List ℕ) → LacksObject w (used ++ rest)
    none rest found more at fine =
        let same : found.head ≡ lead.head = (head_one most_interim (used ++ rest) found.head lead.head more rest at.leads (is.spelled rest)).0 in
        false_true (sym other ∙ (ap (is_success w.ask) (sym same) ∙ fine))

no_object : (w : Words) (bytes : List ℕ) → LacksLead object_limit bytes → LacksObject w bytes
no_object w bytes none lead rest at fine = none lead rest at

pub lacks_objects : (w : Words) (left : Option (List ℕ)) → IfSome left (LacksLead object_limit) → IfSome left (LacksObject w)
lacks_objects w left = some_then left (LacksLead object_limit) (LacksObject w) (no_object w)

same_some : (m n : ℕ) → ◌≡◌ {A = Option ℕ} (Some m) (Some n) → m ≡ n
same_some m n is = cc

-- where its body is too short, no reply is
pub lacks_body : (limit : ℕ) (left : Option (List ℕ)) (used : List ℕ) (left' : Option (List ℕ)) (lead : Lead) → LeftAfter left used left' → IsLead limit used lead → IfSome left' (λ bytes. length bytes < lead.len) → IfSome left (LacksReply limit)
lacks_body limit left used left' lead gone is few = if_some_before (LacksReply limit) left used left' gone (some_then left' (λ bytes. length bytes < lead.len) (λ rest. LacksReply limit (used ++ rest)) none few)
  where
    none : (rest : List ℕ) → length rest < lead.len → LacksReply limit (used ++ rest)
    none rest short reply more at =
        let same = head_one most_interim (used ++ rest) reply.head lead.head at.behind rest at.leads (is.spelled rest) in
        let size : length reply.body ≡ lead.len = same_some _ _ (sym at.told ∙ ap (length_in limit false) same.0 ∙ is.told) in
        let split : rest ≡ reply.body ++ more = sym same.1 ∙ at.split in
        omega (arith, size, short, ap length split, length-append reply.body more)
