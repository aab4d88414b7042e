use Rattle.runner_rows.proofs.Resting.{untold_work}
use Rattle.runner_rows.proofs.crew.Crew.turn.Goals as goal

pub turn-requires-clause-at_work : goal.turn-requires-clause-at_work
turn-requires-clause-at_work g c = untold_work _ _ _ _ _ _ c.args.self.now.paired c.args.self.now.free
