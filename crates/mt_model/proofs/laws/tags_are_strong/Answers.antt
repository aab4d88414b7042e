use Rattle.std.specs.Prelude.{length}
use Rattle.mt_model.specs.Honest.{Bytes}
use Rattle.mt_model.specs.Laws.{len_of}
use Rattle.mt_model.proofs.Tags as law
use Rattle.mt_model.proofs.laws.tags_are_strong.Goals as goal

pub returns : goal.returns
returns c = record { references = law.tags_are_strong len_of; bytes = law.tags_are_strong (λ (bytes : Bytes). length bytes) }
