use Rattle.mt_runner.proofs.Standing.{rights_stay}
use Rattle.mt_runner.proofs.laws.attempts_stay_right.Goals as goal

pub returns : goal.returns
returns g c rule login seen engine base h more xs i right = rights_stay login (g.P.Spawner.gives rule) (g.P.Spawner.may rule) seen engine base h more xs i right
