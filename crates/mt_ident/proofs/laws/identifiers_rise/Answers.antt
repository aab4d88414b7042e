-- Identifiers rise with their numbers.
use Rattle.mt_ident.proofs.IdentifierOrder.{texts_rise}
use Rattle.mt_ident.proofs.laws.identifiers_rise.Goals as goal

pub returns : goal.returns
returns c = texts_rise
