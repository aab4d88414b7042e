use Rattle.mt_records.specs.Fate.{fate}
use Rattle.mt_runner.proofs.Worlds.{leads_steps, leads_valid}
use Rattle.mt_runner.proofs.laws.turns_are_steps.Goals as goal

pub returns-clause-steps : goal.returns-clause-steps
returns-clause-steps g c rule login end w steps v is = leads_steps login (g.P.Spawner.gives rule) (fate login) end w steps v is

pub returns-clause-valid : goal.returns-clause-valid
returns-clause-valid g c rule login end w steps v is valid = leads_valid login (g.P.Spawner.gives rule) (fate login) end w steps v is valid
