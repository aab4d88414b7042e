-- The options so far, and those among the words that are left.
use Rattle.std.proofs.Common.{◌≡◌, ◌+◌, length, map}
use Rattle.std.specs.Prelude.{string_bytes}
use Rattle.mt_certify.specs.CertifyWords.{HasLogin, no_option, options_from}
use Rattle.mt_certify.proofs.words.read_options.Given as goal

abbrev pub invariant-options : goal.invariant-options
invariant-options l = record {
  so_far : options_from l.fn.stored l.chosen l.place (map string_bytes l.rest) ≡ options_from l.fn.stored no_option 0 (map string_bytes l.fn.words);
  place : l.place + length l.rest ≡ length l.fn.words;
  login : HasLogin l.chosen;
}

abbrev pub decreases-options : goal.decreases-options
decreases-options l = length l.rest
