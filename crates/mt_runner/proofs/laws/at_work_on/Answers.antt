use Rattle.std.proofs.Common.{refl}
use Rattle.mt_runner.proofs.Standing.{at_work_more}
use Rattle.mt_runner.proofs.laws.at_work_on.Goals as goal

pub returns : goal.returns
returns g c rule children held runner seen seen' engine engine' is_open serves told goes work =
    at_work_more runner.login (g.P.Spawner.gives rule) (g.P.Spawner.may rule) children held runner seen seen' engine engine' refl is_open serves told goes work
