use Rattle.mt_model.proofs.EndedGoesOn as law
use Rattle.mt_model.proofs.laws.ended_goes_on.Goals as goal

pub returns : goal.returns
returns c = record { references = law.ended_goes_on; bytes = law.ended_goes_on }
