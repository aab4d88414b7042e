use Rattle.mt_spawn.proofs.mem_spawner.MemSpawnerSpawner.start.Goals as goal

pub returns-clause-start : goal.returns-clause-start
returns-clause-start g c = c.begin.ensures.begins c.args.self.now.faults c.args.self.now.waits
