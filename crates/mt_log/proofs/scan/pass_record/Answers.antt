-- The record's bytes, by what was read of them.
use Rattle.std.proofs.Common.{◌≡◌, ℕ, ◌+◌, ◌-◌, nat_eq, length, Err, ap, arith, subst, sym, ◌∙◌}
use Rattle.std.specs.Cmp.Lexicographic.{pointwise}
use Rattle.std.proofs.lemmas.Option.{same_Some}
use Rattle.mt_log.specs.LogImage.{Damaged, LogFault, Short}
use Rattle.mt_log.specs.Scan.{EndsWith, WindowState, rest_at}
use Rattle.mt_log.proofs.Scans.{damaged, short_head, short_payload, whole_record}
use Rattle.mt_log.proofs.Windows.{rest_behind, rest_size}
use Rattle.mt_log.proofs.scan.pass_record.Goals as goal

pub returns-then-left-lt-RECORD_HEAD-clause-refused : goal.returns-then-left-lt-RECORD_HEAD-clause-refused
returns-then-left-lt-RECORD_HEAD-clause-refused g c files is fault named =
    let window = c.args.window.now in
    let rest = rest_at files window in
    let left : c.left-left.result ≡ length rest = omega (arith, rest_size files window (c.requires.window files is), c.left-left.ensures) in
    subst (λ (f : LogFault). EndsWith window.at rest (Err f)) (ap (λ (n : ℕ). Short n 21 c.left-left.result) (sym c.at-at.ensures) ∙ same_Some _ fault named)
    (short_head window.at c.left-left.result rest (c.requires.gate files is) left c.if-left-lt-RECORD_HEAD.true)

pub returns-then-left-wanted-clause-refused : goal.returns-then-left-wanted-clause-refused
returns-then-left-wanted-clause-refused g c files is fault named =
    let window = c.args.window.now in
    let rest = rest_at files window in
    let left : c.left-left.result ≡ length rest = omega (arith, rest_size files window (c.requires.window files is), c.left-left.ensures) in
    subst (λ (f : LogFault). EndsWith window.at rest (Err f)) (ap (λ (n : ℕ). Short n (21 + c.in_ok-head.head.len) c.left-left.result) (sym c.at-at.ensures) ∙ same_Some _ fault named)
    (short_payload window.at c.left-left.result c.in_ok-head.head.len rest c.in_ok-head.head.sum (c.requires.gate files is) (c.in_ok-head.ensures.head files is) (omega arith) left c.if-left-lt-RECORD_HEAD.false c.if-left-wanted.true)

pub returns-then-not-same-clause-refused : goal.returns-then-not-same-clause-refused
returns-then-not-same-clause-refused g c files is fault named =
    let window = c.args.window.now in
    let rest = rest_at files window in
    let left : c.left-left.result ≡ length rest = omega (arith, rest_size files window (c.requires.window files is), c.left-left.ensures) in
    let sum = c.in_ok-computed.ensures.sum files (c.read_head.ensures.read.seen_same ∙ is) in
    subst (λ (f : LogFault). EndsWith window.at rest (Err f)) (ap (λ (n : ℕ). Damaged n c.in_ok-head.head.sum c.in_ok-computed.computed) (sym c.at-at.ensures) ∙ same_Some _ fault named)
    (damaged window.at c.left-left.result c.in_ok-head.head.len rest (rest_at files c.read_head.new.window) c.in_ok-head.head.sum c.in_ok-computed.computed (c.requires.gate files is) (c.in_ok-head.ensures.head files is)
    (omega arith) left c.if-left-wanted.false (rest_behind files window c.read_head.new.window 21 c.in_ok-head.ensures.same) sum
    ((λ i. pointwise nat_eq (sym c.as_slice.ensures i) (sym c.as_slice-2.ensures i)) ∙ sym c.eq-same.ensures ∙ c.if-not-same.true))

pub returns-clause-passed : goal.returns-clause-passed
returns-clause-passed g c files is =
    let window = c.args.window.now in
    let rest = rest_at files window in
    let left : c.left-left.result ≡ length rest = omega (arith, rest_size files window (c.requires.window files is), c.left-left.ensures) in
    let sum = c.in_ok-computed.ensures.sum files (c.read_head.ensures.read.seen_same ∙ is) in
    let size : c.digest.new.self.at - window.at ≡ 21 + c.in_ok-head.head.len = omega (arith, ap (λ (w : WindowState). w.at) c.in_ok-computed.ensures.same, ap (λ (w : WindowState). w.at) c.in_ok-head.ensures.same) in
    whole_record c.left-left.result c.in_ok-head.head.len _ rest (rest_at files c.read_head.new.window) c.in_ok-head.head.sum c.in_ok-computed.computed (c.requires.gate files is) (c.in_ok-head.ensures.head files is)
    (omega arith) left c.if-left-wanted.false (rest_behind files window c.read_head.new.window 21 c.in_ok-head.ensures.same) sum
    ((λ i. pointwise nat_eq (sym c.as_slice.ensures i) (sym c.as_slice-2.ensures i)) ∙ sym c.eq-same.ensures ∙ c.if-not-same.false) size
