-- the files so far were looked at
use Rattle.std.proofs.Common.{◌≡◌, length, ◌-◌}
use Rattle.mt_base.specs.Counts.{NeverFell}
use Rattle.mt_records.specs.Seen.{sizes_in}
use Rattle.mt_spawn.specs.Children.{SameLive}
use Rattle.mt_tasks.specs.Fates.{HasLooked}
use Rattle.mt_tasks.proofs.judging.judge.Given as goal

abbrev pub invariant-loop-size : goal.invariant-loop-size
invariant-loop-size g l = record {
  looked : HasLooked l.login l.fn.left (g.P.Spawner.told l.fn.spawner) l.judging;
  same : SameLive (g.P.Spawner.seen l.fn.spawner) (g.P.Spawner.seen l.spawner);
  faults : NeverFell (g.P.Spawner.seen l.fn.spawner).faults (g.P.Spawner.seen l.spawner).faults;
  held : g.P.Spawner.held l.spawner ≡ g.P.Spawner.held l.fn.spawner;
  told : g.P.Spawner.told l.spawner ≡ g.P.Spawner.told l.fn.spawner;
  rule : g.P.Spawner.rule l.spawner ≡ g.P.Spawner.rule l.fn.spawner;
}

abbrev pub decreases-loop-size : goal.decreases-loop-size
decreases-loop-size g l = length (sizes_in l.judging.left.made) - l.judging.count
