use Rattle.std.proofs.Common.{◌≡◌, List, ℕ, subst}
use Rattle.httparse.specs.Grammar.{ResponseHead}
use Rattle.mt_response.specs.Replies.{IsReplyHeadOf, head_of}
use Rattle.mt_response.proofs.Heads.{head_spelled, none_at_end, none_behind, none_in_head, none_too_long}
use Rattle.mt_response.proofs.head.read_head.Goals as goal

pub returns-in-Ok-None-clause-read : goal.returns-in-Ok-None-clause-read
returns-in-Ok-None-clause-read g c =
    let head = c.in-Whole.ensures.read in
    let none : (h : ResponseHead) → ¬ (IsReplyHeadOf c.as_slice.result.now h) = (rw c.in-Ok-None.field-0-is at c.in-Ok-None.ensures).none in
    let refused = subst (λ (text : List ℕ). (h : ResponseHead) → ¬ (IsReplyHeadOf text h)) c.as_slice.ensures.value none in
    (none_behind _ head.0.0 c.in-Whole.head.items _ head.0.1 head.0.2 refused, head.1)

pub returns-in-End-clause-read : goal.returns-in-End-clause-read
returns-in-End-clause-read g c = let read = c.in-End.ensures.read in (none_at_end _ read.0, read.1)

pub returns-in-Truncated-clause-read : goal.returns-in-Truncated-clause-read
returns-in-Truncated-clause-read g c = let read = c.in-Truncated.ensures.read in (none_in_head _ read.0, read.1)

pub returns-in-TooLong-clause-read : goal.returns-in-TooLong-clause-read
returns-in-TooLong-clause-read g c = let read = c.in-TooLong.ensures.read in (none_too_long _ read.0, read.1)

pub returns-in-Ok-Some-clause-read : goal.returns-in-Ok-Some-clause-read
returns-in-Ok-Some-clause-read g c =
    let head = c.in-Whole.ensures.read in
    let is : (h : ResponseHead) × IsReplyHeadOf c.as_slice.result.now h × (head_of h ≡ c.in-Ok-Some.head) = (rw c.in-Ok-Some.field-0-is at c.in-Ok-Some.ensures).some in
    let reads = subst (λ (text : List ℕ). IsReplyHeadOf text is.0) c.as_slice.ensures.value is.1 in
    ((_, head.0.1, head_spelled head.0.0 c.in-Whole.head.items is.0 c.in-Ok-Some.head head.0.2 reads is.2), head.1)
