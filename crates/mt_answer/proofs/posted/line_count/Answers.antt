use Rattle.std.proofs.Common.{rules, tests, nat_lt, length}
use Rattle.std.proofs.lemmas.Iterator.Consumers.{YieldsList-from_filter, count_from_yields_List}
use Rattle.std.proofs.lemmas.Iterator.Splits.{YieldsList-from_lines}
use Rattle.mt_answer.proofs.posted.line_count.Goals as goal

pub returns : goal.returns
returns c =
    count_from_yields_List _ _ c.count.ensures.ran
    (YieldsList-from_filter _ (λ line. nat_lt 0 (length line)) (YieldsList-from_lines c.args.text.now (cc)) c.filter.ensures.closure (λ x b q h. search (rules, tests)))
