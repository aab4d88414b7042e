use Rattle.std.specs.Prelude.{length}
use Rattle.mt_model.specs.Honest.{Bytes}
use Rattle.mt_model.specs.Laws.{len_of}
use Rattle.mt_model.proofs.StaysTaken as law
use Rattle.mt_model.proofs.laws.stays_taken.Goals as goal

pub returns : goal.returns
returns c = record { references = law.stays_taken len_of; bytes = law.stays_taken (λ (bytes : Bytes). length bytes) }
