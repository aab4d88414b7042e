-- The chain gives the parts round the bytes 0 but for the first.
use Rattle.std.proofs.Common.{rules, nat_eq}
use Rattle.std.proofs.lemmas.Iterator.Adapters.{YieldsList-from_skip}
use Rattle.std.proofs.lemmas.Iterator.Consumers.{count_from_yields_List}
use Rattle.std.proofs.lemmas.Iterator.Splits.{YieldsList-from_slice_split}
use Rattle.mt_path.proofs.key.part_count.Goals as goal

pub returns : goal.returns
returns c =
    count_from_yields_List _ c.count.result c.count.ensures.ran
    (YieldsList-from_skip 1 (YieldsList-from_slice_split _ (λ b. nat_eq b 0) c.args.key.now (cc) (cc) (cc) (λ x b q h. search rules)) (cc))
