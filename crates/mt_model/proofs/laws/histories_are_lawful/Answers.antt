use Rattle.std.specs.Prelude.{length}
use Rattle.mt_model.specs.Laws.{len_of}
use Rattle.mt_model.proofs.LawfulHistories.{lawful_taken}
use Rattle.mt_model.proofs.laws.histories_are_lawful.Goals as goal

pub returns : goal.returns
returns c = record { references = lawful_taken len_of; bytes = lawful_taken length }
