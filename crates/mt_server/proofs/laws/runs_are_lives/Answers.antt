use Rattle.mt_opening.specs.History.{HasHistory}
use Rattle.mt_lives.proofs.Chains.{runs_are_lives, told_stays}
use Rattle.mt_server.proofs.laws.runs_are_lives.Goals as goal

pub returns-clause-lives : goal.returns-clause-lives
returns-clause-lives c = runs_are_lives HasHistory

pub returns-clause-stays : goal.returns-clause-stays
returns-clause-stays c = told_stays HasHistory
