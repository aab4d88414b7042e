-- The chain gives the lines, and of these the ones that have a byte.
use Rattle.std.proofs.Common.{rules, tests, nat_lt, length}
use Rattle.std.proofs.lemmas.Iterator.Consumers.{YieldsList-from_filter, map_from_collect}
use Rattle.std.proofs.lemmas.Iterator.Splits.{YieldsList-from_lines}
use Rattle.mt_answer.proofs.posted.texts_of.Goals as goal

pub returns : goal.returns
returns c =
    map_from_collect _ c.collect.ensures.ran
    (YieldsList-from_filter _ (λ line. nat_lt 0 (length line)) (YieldsList-from_lines c.args.text.now (cc)) c.filter.ensures.closure (λ x b q h. search (rules, tests)))
