use Rattle.mt_runner.proofs.Drains.{companies_add}
use Rattle.mt_runner.proofs.laws.companies_add.Goals as goal

pub returns : goal.returns
returns c = companies_add
