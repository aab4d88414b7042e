use Rattle.runner_rows.proofs.Silence.{silent_start}
use Rattle.runner_rows.proofs.silent.SilentSpawner.start.Goals as goal

pub returns-clause-start : goal.returns-clause-start
returns-clause-start g c = silent_start _ _ _ _ _ _ _ c.start.ensures.start
