use Rattle.runner_rows.proofs.Silence.{silent_read}
use Rattle.runner_rows.proofs.silent.SilentSpawner.read.Goals as goal

pub returns-clause-read : goal.returns-clause-read
returns-clause-read c = silent_read _ _ _ _ _ _ _ c.read.ensures.read
