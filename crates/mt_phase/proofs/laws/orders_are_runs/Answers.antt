use Rattle.mt_phase.proofs.Runs.{orders_run}
use Rattle.mt_phase.proofs.laws.orders_are_runs.Goals as goal

pub returns : goal.returns
returns c = orders_run
