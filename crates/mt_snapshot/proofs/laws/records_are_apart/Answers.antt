use Rattle.mt_snapshot.proofs.Apart.{no_command, no_piece}
use Rattle.mt_snapshot.proofs.laws.records_are_apart.Goals as goal

pub returns-clause-pieces : goal.returns-clause-pieces
returns-clause-pieces c = no_piece

pub returns-clause-commands : goal.returns-clause-commands
returns-clause-commands c = no_command
