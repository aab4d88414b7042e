use Rattle.std.proofs.Common.{◌≡◌, length}
use Rattle.mt_base.specs.Counts.{NeverFell}
use Rattle.mt_spawn.specs.Children.{SameCounts}
use Rattle.mt_runner.specs.Attempts.{ArePaired}
use Rattle.mt_runner.proofs.runner.Runner.stop.Given as goal

abbrev pub invariant-loop-started : goal.invariant-loop-started
invariant-loop-started g l = record {
  paired : ArePaired l.self.kept (g.P.Spawner.seen l.spawner).live;
  counts : SameCounts (g.P.Spawner.seen l.fn.spawner) (g.P.Spawner.seen l.spawner);
  faults : NeverFell (g.P.Spawner.seen l.fn.spawner).faults (g.P.Spawner.seen l.spawner).faults;
  held : g.P.Spawner.held l.spawner ≡ g.P.Spawner.held l.fn.spawner;
  rule : g.P.Spawner.rule l.spawner ≡ g.P.Spawner.rule l.fn.spawner;
  slots : l.self.slots ≡ l.fn.self.slots;
  login : l.self.login ≡ l.fn.self.login;
}

abbrev pub decreases-loop-started : goal.decreases-loop-started
decreases-loop-started g l = length l.self.kept
