use Rattle.std.proofs.Common.{refl, true}
use Rattle.mt_runner.specs.Turning.{working_of}
use Rattle.mt_runner.proofs.Drains.{follow_honest}
use Rattle.mt_runner.proofs.laws.follow_honest.Goals as goal

pub returns : goal.returns
returns g c children clock login slots limit base h used asked ts follow =
    follow_honest (working_of true (g.C.Clock.gives clock) (g.P.Spawner.gives children) login slots limit base) h used asked ts refl follow
