-- The options so far, and those among the words that are left.
use Rattle.std.proofs.Common.{◌≡◌, ◌+◌, length, map}
use Rattle.std.specs.Prelude.{string_bytes}
use Rattle.mt_drill.specs.DrillWords.{AreWithin, no_option, options_from}
use Rattle.mt_drill.proofs.words.read_options.Given as goal

abbrev pub invariant-options : goal.invariant-options
invariant-options l = record {
  so_far : options_from l.chosen l.place (map string_bytes l.rest) ≡ options_from no_option 0 (map string_bytes l.fn.words);
  place : l.place + length l.rest ≡ length l.fn.words;
  within : AreWithin l.chosen;
}

abbrev pub decreases-options : goal.decreases-options
decreases-options l = length l.rest
