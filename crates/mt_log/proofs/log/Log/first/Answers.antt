use Rattle.mt_log.proofs.Places.{from_place-first}
use Rattle.mt_log.proofs.log.Log.first.Goals as goal

pub returns-clause-all : goal.returns-clause-all
returns-clause-all c ps = from_place-first ps
