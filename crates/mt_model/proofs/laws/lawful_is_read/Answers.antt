use Rattle.mt_model.proofs.LawfulRead as law
use Rattle.mt_model.proofs.laws.lawful_is_read.Goals as goal

pub returns : goal.returns
returns c = law.lawful_is_read
