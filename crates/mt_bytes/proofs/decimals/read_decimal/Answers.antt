-- The digits so far write the number so far.
use Rattle.std.proofs.Common.{rules, ◌≡◌, ◌≤◌, arith, length, get_or, sym, ap, ◌∙◌, true, false, refl, Some}
use Rattle.std.specs.Char.{is_ascii_digit}
use Rattle.std.proofs.lemmas.Bool.Decides.{nat_tests}
use Rattle.mt_base.specs.Numbers.{IsDecimal}
use Rattle.mt_bytes.proofs.Digits.{IsRead-fits, IsRead-more, digit-le, IsDecimal-not, IsDecimal-read, decimal_number-some, decimal_number-none}
use Rattle.mt_bytes.proofs.decimals.read_decimal.Goals as goal

pub returns-then-is_empty-clause-value : goal.returns-then-is_empty-clause-value
returns-then-is_empty-clause-value c =
    let never : ¬ (IsDecimal c.args.text.now) = search rules in
    decimal_number-none c.args.text.now never

pub returns-then-not-is_ascii_digit-clause-value :
    goal.returns-then-not-is_ascii_digit-clause-value
returns-then-not-is_ascii_digit-clause-value c =
    let other : is_ascii_digit (get_or c.args.text.now c.loop-byte.byte-index 0) ≡ false = search rules in
    decimal_number-none c.args.text.now (IsDecimal-not c.args.text.now c.loop-byte.byte-index c.loop-byte-test.true other)

pub overflow_mul-value : goal.overflow_mul-value
overflow_mul-value c =
    omega (arith, IsRead-fits c.args.text.now c.loop-byte.byte-index c.loop-byte.value c.loop-byte-test.true c.if-text-gt-MOST_DIGITS.false c.loop-byte.invariant)

pub overflow_add-value : goal.overflow_add-value
overflow_add-value c =
    let digit : is_ascii_digit (get_or c.args.text.now c.loop-byte.byte-index 0) ≡ true = search rules in
    omega (arith, IsRead-fits c.args.text.now c.loop-byte.byte-index c.loop-byte.value c.loop-byte-test.true c.if-text-gt-MOST_DIGITS.false c.loop-byte.invariant, digit-le (get_or c.args.text.now c.loop-byte.byte-index 0) digit)

pub loop-byte-preserved : goal.loop-byte-preserved
loop-byte-preserved c =
    let digit : is_ascii_digit (get_or c.args.text.now c.loop-byte.byte-index 0) ≡ true = search rules in
    IsRead-more c.args.text.now c.loop-byte.byte-index c.loop-byte.value c.loop-byte-test.true digit c.loop-byte.invariant

pub returns : goal.returns
returns c =
    let text = c.args.text.now in
    let some : 1 ≤ length text = grind (arith, nat_tests) in
    let read = IsDecimal-read text c.loop-byte.byte-index c.loop-byte.value some c.if-text-gt-MOST_DIGITS.false c.loop-byte-test.false c.loop-byte.invariant in
    record { value = ap Some read.1 ∙ sym (decimal_number-some text read.0); exact = (λ e. read.0, λ is. refl) }
