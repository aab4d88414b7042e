-- The option that was read is one more.
use Rattle.std.proofs.Common.{ℕ, List, rules, Ok, refl, ◌≡◌, ◌∙◌, ap, sym}
use Rattle.std.specs.Prelude.{string_bytes}
use Rattle.mt_certify.specs.CertifyWords.{with_option}
use Rattle.mt_certify.proofs.Reading.{next_option}
use Rattle.mt_certify.proofs.words.read_options.Goals as goal

pub options-preserved : goal.options-preserved
options-preserved c = record {
  so_far =
      let name = c.name-item-in-options.result in
      let value = c.value-item.result in
      let read : with_option c.args.stored c.options.chosen c.options.place (string_bytes name) (string_bytes value) ≡ Ok c.add_option.new.chosen =
      ap (λ (n : List ℕ). with_option c.args.stored c.options.chosen c.options.place n (string_bytes value)) (sym c.as_str-in-len2-up.ensures.value)
      ∙ ap (λ (v : List ℕ). with_option c.args.stored c.options.chosen c.options.place c.as_str-in-len2-up.result.now v) (sym c.as_str-in-len2-up-2.ensures.value)
      ∙ c.in_ok-add_option-in-len2-up.ensures.ok in
      next_option string_bytes c.args.stored c.options.chosen c.add_option.new.chosen c.options.place c.options.rest.now name value _ c.in-len2-up.len_at_least refl c.name-item-in-options.is c.value-item.is read
      ∙ c.options.invariant.so_far;
  place = search rules;
  login = search rules;
}
