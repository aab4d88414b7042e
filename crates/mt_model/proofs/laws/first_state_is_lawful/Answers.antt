use Rattle.mt_types.specs.declared.body.Body.{Body}
use Rattle.mt_model.proofs.LawfulSteps.{Lawful-first_state}
use Rattle.mt_model.proofs.laws.first_state_is_lawful.Goals as goal

pub returns : goal.returns
returns c = Lawful-first_state Body
