-- The option that was read is one more.
use Rattle.std.proofs.Common.{◌≡◌, ◌∙◌, Some, refl, ap, sym, map, true, Bool, rules, drop, take, ◌-◌}
use Rattle.std.specs.Prelude.{string_bytes, option_and_then}
use Rattle.mt_helper.specs.Words.{options_from, taken, with_option}
use Rattle.mt_helper.specs.declared.options.SplitOptions.{SplitOptions}
use Rattle.mt_helper.proofs.Reading.{one_ahead, options_ahead}
use Rattle.mt_helper.proofs.words.read_options.Goals as goal

pub returns-in-len1 : goal.returns-in-len1
returns-in-len1 c = sym (one_ahead string_bytes c.options.options c.options.rest.now c.in-len1.len_at_least c.in-len1.len_below) ∙ c.options.invariant

pub options-preserved : goal.options-preserved
options-preserved c =
    let name = c.name-item.result in
    let value = c.value-item.result in
    let is : c.in_ok-add_option-in-len2-up.field-0 ≡ true = search rules in
    let read : with_option c.options.options (string_bytes name) (string_bytes value) ≡ Some c.add_option.new.options =
    (λ i. with_option c.options.options (sym c.as_str.ensures.value i) (sym c.as_bytes.ensures.value i))
    ∙ sym c.in_ok-add_option-in-len2-up.ensures ∙ ap (λ (b : Bool). taken b c.add_option.new.options) is in
    sym (options_ahead string_bytes c.options.options c.options.rest.now name value _ c.in-len2-up.len_at_least refl c.name-item.is c.value-item.is
    ∙ ap (option_and_then (λ (more : SplitOptions). options_from more (map string_bytes (take (_ - 2) (drop 2 c.options.rest.now))))) read)
    ∙ c.options.invariant
