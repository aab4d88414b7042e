use Rattle.std.proofs.Common.{◌≡◌, ◌-◌, ◌≤◌, Bool}
use Rattle.std.specs.Option.{ForSome}
use Rattle.mt_base.specs.Counts.{NeverFell}
use Rattle.mt_disk.specs.Files.{contents}
use Rattle.mt_disk.specs.CrashModel.{OnlyRead}
use Rattle.mt_log.specs.Scan.{IsWindow, Walked}
use Rattle.mt_log.proofs.scan.walk.Given as goal

abbrev pub invariant-records : goal.invariant-records
invariant-records g l =
    let d = g.D.Disk in
    record {
      same : l.window ≡ record l.fn.window { at = l.window.at; held = l.window.held };
      window : ForSome (d.seen l.disk) (λ files. IsWindow files l.window);
      read : OnlyRead d.seen d.may_leave d.moment d.left_since l.fn.disk l.disk;
      later : l.fn.window.at ≤ l.window.at;
      faults : NeverFell (d.faults l.fn.disk) (d.faults l.disk);
      walked : ForSome (d.seen l.fn.disk) (λ files. (old : Bool) → Walked old (contents files l.fn.window.file) l.fn.window.at → Walked old (contents files l.fn.window.file) l.window.at);
    }

abbrev pub decreases-records : goal.decreases-records
decreases-records g l = l.window.end - l.window.at
