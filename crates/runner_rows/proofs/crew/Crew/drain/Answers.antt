use Rattle.runner_rows.proofs.Resting.{untold_work}
use Rattle.runner_rows.proofs.crew.Crew.drain.Goals as goal

pub drain-requires-clause-at_work : goal.drain-requires-clause-at_work
drain-requires-clause-at_work g c = untold_work _ _ _ _ _ _ c.args.self.now.paired c.args.self.now.free
