use Rattle.mt_server.proofs.Chains.{all_honest, runs_are_honest}
use Rattle.mt_server.proofs.laws.lives_are_honest.Goals as goal

pub returns-clause-run : goal.returns-clause-run
returns-clause-run g c = λ children login. runs_are_honest login (g.P.Spawner.gives children)

pub returns-clause-lives : goal.returns-clause-lives
returns-clause-lives g c = λ children login. all_honest login (g.P.Spawner.gives children)
