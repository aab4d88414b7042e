-- The chain gives the parts round the slashes, and of these the first ones that have a byte.
use Rattle.std.proofs.Common.{rules, tests, nat_eq, nat_lt, length}
use Rattle.std.proofs.lemmas.Iterator.{YieldsList-from_take}
use Rattle.std.proofs.lemmas.Iterator.Consumers.{map_from_collect, YieldsList-at, YieldsList-from_filter}
use Rattle.std.proofs.lemmas.Iterator.Splits.{YieldsList-from_slice_split}
use Rattle.mt_path.specs.declared.limits.TheConstants.{MOST_PIECES}
use Rattle.mt_path.specs.AccountPath.{slash}
use Rattle.mt_path.proofs.pieces.pieces.Goals as goal

pub returns : goal.returns
returns c =
    map_from_collect _ c.collect.ensures.ran
    (YieldsList-from_take MOST_PIECES (YieldsList-at c.take.ensures.source (YieldsList-from_filter _ (λ piece. nat_lt 0 (length piece))
    (YieldsList-from_slice_split _ (λ b. nat_eq b slash) c.args.text.now (cc) (cc) (cc) (λ x b q h. search rules))
    c.filter.ensures.closure (λ x b q h. search (rules, tests)))) (cc))
