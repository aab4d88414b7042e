-- The text of an identifier is UTF-8, and it parses to the bits that hold the number.
use Rattle.std.proofs.Common.{rules, ◌≡◌, ℕ, List, Some, Option, unwrap_or, [], arith, ap, ◌∙◌, IsUtf8}
use Rattle.std.specs.Int.{w128, to_be_bytes}
use Rattle.uuid.specs.Text.{parsed}
use Rattle.mt_ident.specs.Identifiers.{identifier_value}
use Rattle.mt_ident.proofs.IdentifierTexts.{parsed-identifier_text, IsUtf8-identifier_text, last_bits}
use Rattle.mt_ident.proofs.identifiers.last_bits.Goals as goal

pub returns-in_default : goal.returns-in_default
returns-in_default c = λ kind n is.
    let not_text : ¬ (IsUtf8 c.args.text.now) = search rules in
    absurd (not_text (rw is.written (IsUtf8-identifier_text kind n)))

pub returns-in_default-parse_str : goal.returns-in_default-parse_str
returns-in_default-parse_str c = λ kind n is.
    let same : c.in-Ok.shown.now ≡ c.args.text.now = search rules in
    let parses : parsed c.in-Ok.shown.now ≡ Some (to_be_bytes w128 (identifier_value kind n)) = ap parsed (same ∙ is.written) ∙ parsed-identifier_text kind n in
    let ok = c.parse_str.ensures.ok.1 (to_be_bytes w128 (identifier_value kind n), parses) in
    search rules

pub returns : goal.returns
returns c = λ kind n is.
    let same : c.in-Ok.shown.now ≡ c.args.text.now = search rules in
    let parses : parsed c.in-Ok.shown.now ≡ Some (to_be_bytes w128 (identifier_value kind n)) = ap parsed (same ∙ is.written) ∙ parsed-identifier_text kind n in
    let id : Some c.in-Ok-parse_str.id ≡ parsed c.in-Ok.shown.now = search rules in
    let bits : c.in-Ok-parse_str.id ≡ to_be_bytes w128 (identifier_value kind n) = ap (λ (o : Option (List ℕ)). unwrap_or o []) (id ∙ parses) in
    let low = last_bits kind n is.known.1 is.small in
    let value = rw bits at c.as_u64_pair.ensures.low in
    ap Some (omega (arith, low, value))
