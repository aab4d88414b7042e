use Rattle.std.specs.Prelude.{length}
use Rattle.mt_model.specs.Honest.{Bytes}
use Rattle.mt_model.specs.Laws.{len_of}
use Rattle.mt_model.proofs.ArchivesStay as law
use Rattle.mt_model.proofs.laws.archives_stay.Goals as goal

pub returns : goal.returns
returns c = record { references = law.archives_stay len_of; bytes = law.archives_stay (λ (bytes : Bytes). length bytes) }
