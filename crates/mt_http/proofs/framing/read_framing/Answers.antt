use Rattle.std.proofs.Common.{◌≡◌, ◌≤◌, ◌+◌, ◌∙◌, sym, length, Some, None, arith}
use Rattle.std.specs.Prelude.{codes}
use Rattle.mt_types.specs.Fields.{values_of}
use Rattle.mt_http.proofs.FramingLemmas.{first_of, first_is, by_coding, by_length, by_none}
use Rattle.mt_http.proofs.framing.read_framing.Goals as goal

pub returns-in-Some : goal.returns-in-Some
returns-in-Some c =
    let codings = values_of (codes "transfer-encoding") c.args.fields.now in
    let lengths = values_of (codes "content-length") c.args.fields.now in
    let few : length codings ≤ 1 = omega (arith, c.count_of-codings.ensures) in
    let less : length lengths ≤ 1 = omega (arith, c.count_of-lengths.ensures) in
    let other = λ (two : length codings + length lengths ≡ 2). c.if-codings-lengths-eq2.false (omega (arith, c.count_of-codings.ensures, c.count_of-lengths.ensures, two)) in
    let first : Some c.in-Some.coding.now ≡ first_of codings = c.in-Some.ensures ∙ first_is (codes "transfer-encoding") c.args.fields.now in
    c.coding_framing.ensures ∙ sym (by_coding codings lengths c.in-Some.coding.now few less other first)

pub returns-in-Some-first_value : goal.returns-in-Some-first_value
returns-in-Some-first_value c =
    let codings = values_of (codes "transfer-encoding") c.args.fields.now in
    let lengths = values_of (codes "content-length") c.args.fields.now in
    let less : length lengths ≤ 1 = omega (arith, c.count_of-lengths.ensures) in
    let none : None ≡ first_of codings = c.in-None.ensures ∙ first_is (codes "transfer-encoding") c.args.fields.now in
    let first : Some c.in-Some-first_value.text.now ≡ first_of lengths = c.in-Some-first_value.ensures ∙ first_is (codes "content-length") c.args.fields.now in
    c.length_framing.ensures ∙ sym (by_length codings lengths c.in-Some-first_value.text.now less none first)

pub returns-in-None-first_value : goal.returns-in-None-first_value
returns-in-None-first_value c =
    let codings = values_of (codes "transfer-encoding") c.args.fields.now in
    let lengths = values_of (codes "content-length") c.args.fields.now in
    let none : None ≡ first_of codings = c.in-None.ensures ∙ first_is (codes "transfer-encoding") c.args.fields.now in
    let nil : None ≡ first_of lengths = c.in-None-first_value.ensures ∙ first_is (codes "content-length") c.args.fields.now in
    sym (by_none codings lengths none nil)
