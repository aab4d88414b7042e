-- One head at the front of bytes.
use Rattle.std.proofs.Common.{◌≡◌, ℕ, List, ◌++◌, Option, Some, None, refl, sym, subst, ap, ◌∙◌}
use Rattle.std.specs.Prelude.{IfSome}
use Rattle.httparse.specs.Grammar.{LineEnd, print_blank, ResponseHead}
use Rattle.httparse.proofs.GrammarLemmas.{response_unique}
use Rattle.mt_edge.specs.Stream.{LeftAfter}
use Rattle.mt_edge.proofs.Streams.{if_some_before}
use Rattle.mt_http.specs.Framing.{End, EndsInHead, HasLongHead, HeadAt, PlaceAt}
use Rattle.mt_http.specs.Reading.{IsRead}
use Rattle.mt_http.proofs.Heads.{head_is_one, lines_no_head}
use Rattle.mt_response.specs.declared.reply.ReplyHead.{ReplyHead}
use Rattle.mt_response.specs.Reading.{SpellsHead}
use Rattle.mt_response.specs.Replies.{HasNone, IsReplyHeadOf, StandsAt, head_of}

-- bytes begin with at most one head
pub stands_is_one : (bytes : List ℕ) (h k : ReplyHead) (r s : List ℕ) → StandsAt bytes h r → StandsAt bytes k s → (h ≡ k) × (r ≡ s)
stands_is_one bytes h k r s a b =
    let same = head_is_one bytes a.text r b.text s a.stands b.stands in
    let reads = subst (λ (text : List ℕ). IsReplyHeadOf text b.h) (sym same.0) b.reads in
    let one = (response_unique a.text a.h b.h _ _ a.reads.0 reads.0).0 in
    (sym a.says ∙ ap head_of one ∙ b.says, same.1)

some_then : (o : Option (List ℕ)) (P Q : List ℕ → Type 0) → ((bytes : List ℕ) → P bytes → Q bytes) → IfSome o P → IfSome o Q
some_then None P Q each holds = tt
some_then (Some bytes) P Q each holds = each bytes holds

any_some : (o : Option (List ℕ)) (P : List ℕ → Type 0) → ((bytes : List ℕ) → P bytes) → IfSome o P
any_some None P each = tt
any_some (Some bytes) P each = each bytes

-- ---- no head

end_has_none : (bytes : List ℕ) → PlaceAt bytes End → HasNone bytes
unfolding PlaceAt
end_has_none bytes place head rest at = lines_no_head bytes place.1 at.text rest at.stands

pub none_at_end : (left : Option (List ℕ)) → IfSome left (λ bytes. PlaceAt bytes End) → IfSome left HasNone
none_at_end left = some_then left (λ bytes. PlaceAt bytes End) HasNone end_has_none

pub none_in_head : (left : Option (List ℕ)) → IfSome left EndsInHead → IfSome left HasNone
none_in_head left = some_then left EndsInHead HasNone (λ bytes cut head rest at. cut.no_head at.text rest at.stands)

pub none_too_long : (left : Option (List ℕ)) → IfSome left HasLongHead → IfSome left HasNone
none_too_long left = some_then left HasLongHead HasNone (λ bytes long head rest at. long.no_head at.text rest at.stands)

head_at : (lines : List LineEnd) (text rest : List ℕ) → IsRead lines text → HeadAt ((print_blank lines ++ text) ++ rest) text rest
head_at lines text rest read = record { lines = lines; split = refl; whole = read.whole; small = read.small }

-- a head that is no reply's
pub none_behind : (left : Option (List ℕ)) (lines : List LineEnd) (text : List ℕ) (left' : Option (List ℕ)) → LeftAfter left (print_blank lines ++ text) left' → IsRead lines text → ((h : ResponseHead) → ¬ (IsReplyHeadOf text h)) → IfSome left HasNone
none_behind left lines text left' gone read refused = if_some_before HasNone left (print_blank lines ++ text) left' gone (any_some left' (λ rest. HasNone ((print_blank lines ++ text) ++ rest)) none)
  where
    none : (rest : List ℕ) → HasNone ((print_blank lines ++ text) ++ rest)
    none rest head more at =
        let same = head_is_one _ text rest at.text more (head_at lines text rest read) at.stands in
        refused at.h (subst (λ (t : List ℕ). IsReplyHeadOf t at.h) (sym same.0) at.reads)

-- ---- a head

pub head_spelled : (lines : List LineEnd) (text : List ℕ) (h : ResponseHead) (head : ReplyHead) → IsRead lines text → IsReplyHeadOf text h → head_of h ≡ head → SpellsHead (print_blank lines ++ text) head
head_spelled lines text h head read reads says rest = record { text = text; h = h; stands = head_at lines text rest read; reads = reads; says = says }
