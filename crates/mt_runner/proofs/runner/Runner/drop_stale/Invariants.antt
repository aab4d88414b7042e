use Rattle.std.proofs.Common.{◌≡◌, length, List}
use Rattle.mt_base.specs.Counts.{NeverFell}
use Rattle.mt_spawn.specs.Children.{SameCounts}
use Rattle.mt_runner.specs.Attempts.{attempts}
use Rattle.mt_runner.specs.Attends.{ready_of}
use Rattle.mt_runner.proofs.Stales.{Remain}
use Rattle.mt_runner.proofs.runner.Runner.drop_stale.Given as goal

abbrev pub invariant-loop-stale : goal.invariant-loop-stale
invariant-loop-stale g l = record {
  remain : Remain l.fn.engine.state l.self.kept (g.P.Spawner.seen l.spawner).live (ready_of l.fn.engine.state (attempts l.fn.self.kept (g.P.Spawner.seen l.fn.spawner).live));
  counts : SameCounts (g.P.Spawner.seen l.fn.spawner) (g.P.Spawner.seen l.spawner);
  faults : NeverFell (g.P.Spawner.seen l.fn.spawner).faults (g.P.Spawner.seen l.spawner).faults;
  held : g.P.Spawner.held l.spawner ≡ g.P.Spawner.held l.fn.spawner;
  rule : g.P.Spawner.rule l.spawner ≡ g.P.Spawner.rule l.fn.spawner;
  slots : l.self.slots ≡ l.fn.self.slots;
  login : l.self.login ≡ l.fn.self.login;
}

abbrev pub decreases-loop-stale : goal.decreases-loop-stale
decreases-loop-stale g l = length l.self.kept
