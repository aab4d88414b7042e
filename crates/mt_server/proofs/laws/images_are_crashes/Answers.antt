use Rattle.mt_server.proofs.Chains.{images_are_crashes}
use Rattle.mt_server.proofs.laws.images_are_crashes.Goals as goal

pub returns : goal.returns
returns g c = λ children login. images_are_crashes login (g.P.Spawner.gives children)
