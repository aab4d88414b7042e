use Rattle.std.proofs.Common.{◌≡◌, ◌-◌, length, None}
use Rattle.mt_base.specs.Counts.{NeverFell}
use Rattle.mt_disk.specs.CrashModel.{OnlyRead}
use Rattle.mt_tasks.specs.Right.{IsRightNow}
use Rattle.mt_runner.specs.Attends.{work_side}
use Rattle.mt_runner.specs.Filling.{HasBegun}
use Rattle.mt_runner.proofs.runner.Runner.fill.Given as goal

abbrev pub invariant-loop-self : goal.invariant-loop-self
invariant-loop-self g l =
    let d = g.D.Disk in
    let p = g.P.Spawner in
    record {
      begun : HasBegun (IsRightNow l.fn.self.login (p.gives (p.rule l.fn.spawner)) (p.may (p.rule l.fn.spawner)) (d.seen l.fn.disk) l.fn.engine) l.fn.engine.state
          (work_side l.fn.self.kept (p.seen l.fn.spawner) l.fn.engine (d.faults l.fn.disk)) (work_side l.self.kept (p.seen l.spawner) l.fn.engine (d.faults l.disk));
      read : OnlyRead d.seen d.may_leave d.moment d.left_since l.fn.disk l.disk;
      stays : d.stays l.fn.disk l.disk;
      faults : NeverFell (d.faults l.fn.disk) (d.faults l.disk);
      free : p.held l.spawner ≡ None;
      rule : p.rule l.spawner ≡ p.rule l.fn.spawner;
      slots : l.self.slots ≡ l.fn.self.slots;
      login : l.self.login ≡ l.fn.self.login;
    }

abbrev pub decreases-loop-self : goal.decreases-loop-self
decreases-loop-self g l = l.self.slots - length l.self.kept
