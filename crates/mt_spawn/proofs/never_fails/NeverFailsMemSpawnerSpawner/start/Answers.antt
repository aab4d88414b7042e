use Rattle.mt_spawn.proofs.never_fails.NeverFailsMemSpawnerSpawner.start.Goals as goal

pub returns-clause-start : goal.returns-clause-start
returns-clause-start g c = c.begin.ensures.begins 0 0
