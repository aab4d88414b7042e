use Rattle.std.proofs.Common.{ap, ◌∙◌, codes}
use Rattle.mt_cond.specs.Conditions.{conditions_of, date_in}
use Rattle.mt_types.specs.Fields.{values_of}
use Rattle.mt_cond.specs.Tags.{tag_list}
use Rattle.mt_cond.proofs.conditions.Conditions.read.Goals as goal

pub returns : goal.returns
unfolding conditions_of
returns c =
    λ i. record {
      if_match = (c.in_ok-read.ensures ∙ ap (λ fs. tag_list (values_of (codes "if-match") fs)) c.as_slice-fields.ensures) i;
      if_none_match = (c.in_ok-read-2.ensures ∙ ap (λ fs. tag_list (values_of (codes "if-none-match") fs)) c.as_slice-fields.ensures) i;
      if_unmodified_since = (c.date_in.ensures ∙ ap (date_in (codes "if-unmodified-since")) c.as_slice-fields.ensures) i;
      if_modified_since = (c.date_in-2.ensures ∙ ap (date_in (codes "if-modified-since")) c.as_slice-fields.ensures) i;
    }
