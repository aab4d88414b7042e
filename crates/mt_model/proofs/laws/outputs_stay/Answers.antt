use Rattle.std.specs.Prelude.{length}
use Rattle.mt_model.specs.Honest.{Bytes}
use Rattle.mt_model.specs.Laws.{len_of}
use Rattle.mt_model.proofs.OutputsLaw as law
use Rattle.mt_model.proofs.laws.outputs_stay.Goals as goal

pub returns : goal.returns
returns c = record {
  stays = law.outputs_stay len_of;
  bodies = law.outputs_have_bodies len_of;
  bytes_stay = law.outputs_stay (λ (bytes : Bytes). length bytes);
  bytes_bodies = law.outputs_have_bodies (λ (bytes : Bytes). length bytes);
}
