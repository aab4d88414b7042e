-- The test of the texts is that of the order.
use Rattle.std.proofs.Common.{◌∙◌}
use Rattle.mt_ident.proofs.IdentifierOrder.{before_is}
use Rattle.mt_ident.proofs.identifiers.is_before.Goals as goal

pub returns : goal.returns
returns c = c.lt.ensures ∙ before_is c.args.kind c.args.number c.as_slice.result.now c.args.marker.now (c.as_slice.ensures ∙ c.uuid_text.ensures.text)
