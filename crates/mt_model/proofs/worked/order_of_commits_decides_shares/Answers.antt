use Rattle.std.proofs.Common.{refl}
use Rattle.std.specs.Fmt.{digits}
use Rattle.uuid.specs.Text.{by_index}
use Rattle.mt_ident.specs.Identifiers.{identifier_text}
use Rattle.mt_model.specs.CommandStep.{allowed, change, replay, step}
use Rattle.mt_model.proofs.worked.order_of_commits_decides_shares.Goals as goal

pub returns : goal.returns
unfolding allowed change replay step identifier_text by_index digits
returns c = record { early = refl; before_the_last = refl; ready = refl; even = refl; odd = refl }
