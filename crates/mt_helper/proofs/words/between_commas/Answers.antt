-- The chain gives the pieces round the commas.
use Rattle.std.proofs.Common.{rules, nat_eq}
use Rattle.std.proofs.lemmas.Iterator.Consumers.{map_from_collect}
use Rattle.std.proofs.lemmas.Iterator.Splits.{YieldsList-from_slice_split}
use Rattle.mt_helper.proofs.words.between_commas.Goals as goal

pub returns : goal.returns
returns c = map_from_collect _ c.collect.ensures.ran (YieldsList-from_slice_split _ (λ b. nat_eq b 44) c.args.text.now (cc) (cc) (cc) (λ x b q h. search rules))
