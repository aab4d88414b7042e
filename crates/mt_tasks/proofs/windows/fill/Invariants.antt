-- what was read so far stands at the front
use Rattle.std.proofs.Common.{◌≡◌, length, ◌-◌, ◌≤◌, take, drop}
use Rattle.std.specs.Prelude.{IfSome}
use Rattle.mt_base.specs.Counts.{NeverFell}
use Rattle.mt_spawn.specs.Children.{SameLive}
use Rattle.mt_spawn.specs.Parts.{told_part}
use Rattle.mt_tasks.proofs.windows.fill.Given as goal

abbrev pub invariant-loop-done : goal.invariant-loop-done
invariant-loop-done g l = record {
  within : l.done ≤ length l.into;
  filled : IfSome (told_part (g.P.Spawner.told l.fn.spawner) l.part) (λ bytes. take l.done l.into ≡ take l.done (drop l.at bytes));
  same : SameLive (g.P.Spawner.seen l.fn.spawner) (g.P.Spawner.seen l.spawner);
  faults : NeverFell (g.P.Spawner.seen l.fn.spawner).faults (g.P.Spawner.seen l.spawner).faults;
  held : g.P.Spawner.held l.spawner ≡ g.P.Spawner.held l.fn.spawner;
  told : g.P.Spawner.told l.spawner ≡ g.P.Spawner.told l.fn.spawner;
  rule : g.P.Spawner.rule l.spawner ≡ g.P.Spawner.rule l.fn.spawner;
}

abbrev pub decreases-loop-done : goal.decreases-loop-done
decreases-loop-done g l = length l.into - l.done
