use Rattle.std.proofs.Common.{refl}
use Rattle.std.specs.Fmt.{digits}
use Rattle.uuid.specs.Text.{by_index}
use Rattle.mt_ident.specs.Identifiers.{identifier_text}
use Rattle.mt_model.specs.CommandStep.{allowed, change, replay, step}
use Rattle.mt_model.proofs.worked.upload_of_parts.Goals as goal

pub returns : goal.returns
unfolding allowed change replay step identifier_text by_index digits
returns c = record { parts = refl; order = refl; again = refl; front = refl; other = refl; at_directory = refl; no_path = refl }
