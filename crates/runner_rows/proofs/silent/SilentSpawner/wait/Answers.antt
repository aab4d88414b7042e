use Rattle.runner_rows.proofs.Silence.{silent_wait}
use Rattle.runner_rows.proofs.silent.SilentSpawner.wait.Goals as goal

pub returns-clause-wait : goal.returns-clause-wait
returns-clause-wait c = silent_wait _ _ _ _ _ _ c.wait.ensures.wait
