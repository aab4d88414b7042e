use Rattle.std.proofs.Common.{◌≡◌, List, ℕ, None, Some, subst}
use Rattle.httparse.specs.Grammar.{RequestHead}
use Rattle.mt_http.specs.Framing.{IsRequestHeadOf}
use Rattle.mt_http.specs.Message.{head_of}
use Rattle.mt_http.proofs.CleanHeads.{says_clean}
use Rattle.mt_http.proofs.ReadMessage.{bad_behind}
use Rattle.mt_http.proofs.receive.read_head.Goals as goal

pub returns-in-Ok-None-clause-read : goal.returns-in-Ok-None-clause-read
returns-in-Ok-None-clause-read g c =
    let head = c.in-Whole.ensures.read in
    let none : (h : RequestHead) → IsRequestHeadOf c.as_slice.result.now h → head_of h ≡ None = (rw c.in-Ok-None.field-0-is at c.in-Ok-None.ensures).none in
    let refused = subst (λ (text : List ℕ). (h : RequestHead) → IsRequestHeadOf text h → head_of h ≡ None) c.as_slice.ensures.value none in
    (bad_behind _ head.0.0 c.in-Whole.head.items _ head.0.1 head.0.2 refused, head.1)

pub returns-in-Ok-Some-clause-few : goal.returns-in-Ok-Some-clause-few
returns-in-Ok-Some-clause-few g c =
    let is : (h : RequestHead) × IsRequestHeadOf c.as_slice.result.now h × (head_of h ≡ Some c.in-Ok-Some.head) = (rw c.in-Ok-Some.field-0-is at c.in-Ok-Some.ensures).some in
    (says_clean c.as_slice.result.now is.0 c.in-Ok-Some.head is.1 is.2).0

pub returns-in-Ok-Some-clause-clean : goal.returns-in-Ok-Some-clause-clean
returns-in-Ok-Some-clause-clean g c =
    let is : (h : RequestHead) × IsRequestHeadOf c.as_slice.result.now h × (head_of h ≡ Some c.in-Ok-Some.head) = (rw c.in-Ok-Some.field-0-is at c.in-Ok-Some.ensures).some in
    (says_clean c.as_slice.result.now is.0 c.in-Ok-Some.head is.1 is.2).1
