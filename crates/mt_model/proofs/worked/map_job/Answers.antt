use Rattle.std.proofs.Common.{refl}
use Rattle.std.specs.Fmt.{digits}
use Rattle.uuid.specs.Text.{by_index}
use Rattle.mt_ident.specs.Identifiers.{identifier_text}
use Rattle.mt_model.specs.CommandStep.{allowed, change, replay, step}
use Rattle.mt_model.proofs.worked.map_job.Goals as goal

pub returns : goal.returns
unfolding allowed change replay step identifier_text by_index digits
returns c = record { inputs = refl; missing = refl; first = refl; again = refl; beyond = refl; waits = refl; position = refl; unended = refl; early = refl; no_job = refl; ended = refl }
