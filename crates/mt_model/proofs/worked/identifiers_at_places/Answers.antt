use Rattle.std.proofs.Common.{refl}
use Rattle.std.specs.Fmt.{digits}
use Rattle.uuid.specs.Text.{by_index}
use Rattle.mt_ident.specs.Identifiers.{identifier_number, identifier_text}
use Rattle.mt_model.specs.CommandStep.{allowed, change, replay, step}
use Rattle.mt_model.proofs.worked.identifiers_at_places.Goals as goal

pub returns : goal.returns
unfolding allowed change replay step identifier_number identifier_text by_index digits
returns c = record { of_job = refl; of_output = refl; below_output = refl; beside_stor = refl }
