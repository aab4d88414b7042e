use Rattle.mt_snapshot.proofs.Keeps.{first_listable, step_listable}
use Rattle.mt_snapshot.proofs.laws.commands_keep_listable.Goals as goal

pub returns-clause-first : goal.returns-clause-first
returns-clause-first c = first_listable

pub returns-clause-step : goal.returns-clause-step
returns-clause-step c = step_listable
