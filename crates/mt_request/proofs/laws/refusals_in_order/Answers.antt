use Rattle.mt_request.proofs.Ordered.{in_order}
use Rattle.mt_request.proofs.laws.refusals_in_order.Goals as goal

pub returns : goal.returns
returns c = in_order
