use Rattle.mt_engine.proofs.Objects.{objects, served_stored}
use Rattle.mt_engine.proofs.laws.state_has_the_objects.Goals as goal

pub returns-clause-objects : goal.returns-clause-objects
returns-clause-objects c = objects

pub returns-clause-stored : goal.returns-clause-stored
returns-clause-stored c = served_stored
