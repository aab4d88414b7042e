use Rattle.mt_runner.specs.Turning.{working_of}
use Rattle.mt_runner.proofs.Drains.{led_on}
use Rattle.mt_runner.proofs.laws.led_on.Goals as goal

pub returns : goal.returns
returns g c children clock knows login slots limit base old mid new ts us first more =
    led_on (working_of knows (g.C.Clock.gives clock) (g.P.Spawner.gives children) login slots limit base) old mid new ts us first more
