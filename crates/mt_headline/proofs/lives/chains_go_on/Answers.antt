use Rattle.mt_headline.proofs.Runs.{chains_go_on, new_stores_are_empty}
use Rattle.mt_headline.proofs.lives.chains_go_on.Goals as goal

pub returns-clause-next : goal.returns-clause-next
returns-clause-next g c children login = chains_go_on login (g.P.Spawner.gives children)

pub returns-clause-first : goal.returns-clause-first
returns-clause-first g c = new_stores_are_empty
