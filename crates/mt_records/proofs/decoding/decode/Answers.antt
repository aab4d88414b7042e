-- What the end says, the head before the body, and the body.
use Rattle.std.proofs.Common.{◌≡◌, ◌∙◌, ◌-◌, ℕ, List, Some, arith, ap, sym, take, drop, length}
use Rattle.std.proofs.lemmas.Result.{err_from_is_err_and}
use Rattle.mt_records.specs.declared.limits.TheConstants.{END_LEN}
use Rattle.mt_records.specs.Windows.{body_len, last_of}
use Rattle.mt_records.proofs.Decoded.{body_in, decoded_fault, decoded_found}
use Rattle.mt_records.proofs.decoding.decode.Goals as goal

pub returns-in_err-head : goal.returns-in_err-head
returns-in_err-head c =
    let bytes = c.args.bytes.now in
    let said : body_len (last_of END_LEN bytes) (length bytes) ≡ Some c.in-Some.len = ap (λ (e : List ℕ). body_len e (length bytes)) (sym c.end_in.ensures) ∙ sym c.in-Some.ensures.value in
    let p = err_from_is_err_and c.from_residual.result c.from_residual.ensures.1 in
    rw (p.1, p.2) (decoded_fault bytes c.in-Some.len said c.in_err-head.field-0.0 c.in_err-head.ensures)

pub returns : goal.returns
returns c =
    let bytes = c.args.bytes.now in
    let n : ℕ = c.in-Some.len in
    let from : ℕ = length bytes - END_LEN - n in
    let said : body_len (last_of END_LEN bytes) (length bytes) ≡ Some n = ap (λ (e : List ℕ). body_len e (length bytes)) (sym c.end_in.ensures) ∙ sym c.in-Some.ensures.value in
    let body : c.in_ok-body.body ≡ body_in bytes n = c.in_ok-body.ensures ∙ ap (λ (k : ℕ). take k (drop from bytes)) (omega arith) in
    decoded_found bytes n said c.in_ok-head.head c.in_ok-body.body c.in_ok-head.ensures body
