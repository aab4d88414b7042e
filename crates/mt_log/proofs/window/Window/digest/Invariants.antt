use Rattle.std.proofs.Common.{◌≡◌, ◌≤◌, ◌+◌, ◌-◌, take}
use Rattle.std.specs.Option.{ForSome}
use Rattle.mt_base.specs.Counts.{NeverFell}
use Rattle.mt_disk.specs.CrashModel.{OnlyRead}
use Rattle.md5.specs.Md5.{Holds}
use Rattle.mt_log.specs.Scan.{IsWindow, rest_at}
use Rattle.mt_log.proofs.window.Window.digest.Given as goal

abbrev pub invariant-loop-left : goal.invariant-loop-left
invariant-loop-left g l =
    let d = g.D.Disk in
    record {
      few : l.left ≤ l.fn.count;
      same : l.self ≡ record l.fn.self { at = l.fn.self.at + (l.fn.count - l.left); held = l.self.held };
      window : ForSome (d.seen l.disk) (λ files. IsWindow files l.self);
      read : OnlyRead d.seen d.may_leave d.moment d.left_since l.fn.disk l.disk;
      faults : NeverFell (d.faults l.fn.disk) (d.faults l.disk);
      hashed : ForSome (d.seen l.disk) (λ files. Holds l.hasher (take (l.fn.count - l.left) (rest_at files l.fn.self)));
    }

abbrev pub decreases-loop-left : goal.decreases-loop-left
decreases-loop-left g l = l.left
