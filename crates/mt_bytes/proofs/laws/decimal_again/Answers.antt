-- The bytes that were put are the digits, which read as the number.
use Rattle.std.proofs.Common.{rules, ◌≡◌, ap, ◌∙◌}
use Rattle.std.specs.Fmt.{decimal}
use Rattle.mt_bytes.specs.Decimals.{decimal_number}
use Rattle.mt_bytes.proofs.Digits.{decimal_number-decimal}
use Rattle.mt_bytes.proofs.laws.decimal_again.Goals as goal

pub returns : goal.returns
returns c =
    let text : c.deref.result.now ≡ decimal c.args.value = search rules in
    c.read_decimal.ensures.value ∙ ap decimal_number text ∙ decimal_number-decimal c.args.value c.requires
