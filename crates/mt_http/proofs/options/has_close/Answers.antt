-- The pieces between commas are tested in turn.
use Rattle.std.proofs.Common.{rules, nat_eq}
use Rattle.std.proofs.lemmas.Iterator.Search.{any_from_yields_List}
use Rattle.std.proofs.lemmas.Iterator.Splits.{YieldsList-from_slice_split}
use Rattle.mt_http.specs.Options.{says_close}
use Rattle.mt_http.proofs.options.has_close.Goals as goal

pub returns : goal.returns
returns c = any_from_yields_List says_close _ _ c.any.result c.any.ensures.ran (YieldsList-from_slice_split _ (λ b. nat_eq b 44) c.args.value.now c.split.ensures.rest c.split.ensures.done c.split.ensures.closure (λ x b q h. search rules)) (λ x b q h. search rules)
