-- The certificate of the map job, line by line.
use Rattle.std.proofs.Common.{refl}
use Rattle.std.specs.Fmt.{digits}
use Rattle.uuid.specs.Text.{by_index}
use Rattle.mt_ident.specs.Identifiers.{identifier_text}
use Rattle.mt_model.specs.CommandStep.{allowed, change, replay, step}
use Rattle.mt_certline.specs.Worked.{IsWorked}

pub worked : IsWorked
unfolding allowed change replay step identifier_text by_index digits
worked = record { tasks = refl; outputs = refl; follow = refl; exchanged = refl; twice = refl; left_out = refl }
