-- The chain gives the parts between commas, and of these the tags.
use Rattle.std.proofs.Common.{rules, tests, nat_eq, Ok, ◌∙◌}
use Rattle.std.specs.declared.alloc.AllocError.{AllocError}
use Rattle.std.proofs.lemmas.Iterator.{items_from_collect}
use Rattle.std.proofs.lemmas.Iterator.Consumers.{YieldsList-from_filter_map}
use Rattle.std.proofs.lemmas.Iterator.Splits.{YieldsList-from_slice_split}
use Rattle.mt_base.specs.Blanks.{trimmed}
use Rattle.mt_cond.specs.Tags.{comma, tag_of}
use Rattle.mt_cond.proofs.tags.tags_in.Goals as goal

pub returns : goal.returns
returns c =
    c.from_vec.ensures ∙ items_from_collect {E = AllocError} (Ok c.in_ok-tags.tags) c.in_ok-tags.ensures.ran
    (YieldsList-from_filter_map _ (λ piece. tag_of (trimmed piece))
    (YieldsList-from_slice_split _ (λ b. nat_eq b comma) c.args.value.now (cc) (cc) (cc) (λ x b q h. search rules))
    c.filter_map.ensures.closure (λ x r q h. search (rules, tests)))
