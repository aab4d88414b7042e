-- the options so far, and those among the words that are left
use Rattle.std.proofs.Common.{◌≡◌, length, map}
use Rattle.std.specs.Prelude.{string_bytes}
use Rattle.mt_helper.specs.Words.{no_option, options_from}
use Rattle.mt_helper.proofs.words.read_options.Given as goal

abbrev pub invariant-options : goal.invariant-options
invariant-options l = options_from l.options (map string_bytes l.rest) ≡ options_from no_option (map string_bytes l.fn.words)

abbrev pub decreases-options : goal.decreases-options
decreases-options l = length l.rest
