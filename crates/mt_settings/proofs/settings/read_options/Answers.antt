-- The option that was read is one more.
use Rattle.std.proofs.Common.{ℕ, List, rules, Ok, refl, ◌≡◌, ◌∙◌, ap, sym}
use Rattle.std.specs.Prelude.{string_bytes}
use Rattle.mt_settings.specs.Words.{option_named, with_named}
use Rattle.mt_settings.proofs.Moments.{numbers_of}
use Rattle.mt_settings.proofs.Reading.{next_option}
use Rattle.mt_settings.proofs.settings.read_options.Goals as goal

pub options-preserved : goal.options-preserved
options-preserved c = record {
  so_far =
      let name = c.name-item-in-options.result in
      let value = c.value-item.result in
      let read : with_named c.options.given (option_named c.args.serves (string_bytes name)) c.options.place (string_bytes value) ≡ Ok c.add_named.new.given =
      ap (λ (n : List ℕ). with_named c.options.given (option_named c.args.serves n) c.options.place (string_bytes value)) (sym c.as_str-in-len2-up.ensures.value)
      ∙ ap (λ (v : List ℕ). with_named c.options.given (option_named c.args.serves c.as_str-in-len2-up.result.now) c.options.place v) (sym c.as_str-in-len2-up-2.ensures.value)
      ∙ c.in_ok-add_named-in-len2-up.ensures.ok in
      next_option string_bytes c.args.serves c.options.given c.add_named.new.given c.options.place c.options.rest.now name value _ c.in-len2-up.len_at_least refl c.name-item-in-options.is c.value-item.is read
      ∙ c.options.invariant.so_far;
  place = search rules;
}

pub returns-in-empty-clause-within : goal.returns-in-empty-clause-within
returns-in-empty-clause-within c =
    numbers_of string_bytes c.args.serves c.options.given c.options.place c.options.rest.now c.args.words.now c.in-empty.len_below c.options.invariant.so_far
