use Rattle.std.proofs.Common.{refl}
use Rattle.mt_spawn.proofs.Seen.{children_gone}
use Rattle.mt_spawn.proofs.never_fails.NeverFailsMemSpawnerSpawner.kill.Goals as goal

pub returns-clause-kill : goal.returns-clause-kill
returns-clause-kill g c = record { gone = children_gone c.args.ticket.number _ _ c.remove.ensures; counts = record { waits = refl; company = refl } }
