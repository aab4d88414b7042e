-- The options so far, and those among the words that are left.
use Rattle.std.proofs.Common.{◌≡◌, ◌+◌, length, map}
use Rattle.std.specs.Prelude.{string_bytes}
use Rattle.mt_settings.specs.Words.{no_option, options_from}
use Rattle.mt_settings.proofs.settings.read_options.Given as goal

abbrev pub invariant-options : goal.invariant-options
invariant-options l = record {
  so_far : options_from l.serves l.given l.place (map string_bytes l.rest) ≡ options_from l.fn.serves no_option 0 (map string_bytes l.fn.words);
  place : l.place + length l.rest ≡ length l.fn.words;
}

abbrev pub decreases-options : goal.decreases-options
decreases-options l = length l.rest
