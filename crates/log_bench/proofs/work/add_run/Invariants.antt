use Rattle.std.proofs.Common.{◌≡◌, ◌≤◌, false, replicate}
use Rattle.mt_log.specs.LogState.{told}
use Rattle.mt_log.specs.RunState.{HasTaken, Running}
use Rattle.log_bench.proofs.work.add_run.Given as goal

abbrev pub invariant-loop-done : goal.invariant-loop-done
invariant-loop-done g l =
    let d = g.D.Disk in
    record {
      running : Running d.seen d.may_leave l.disk l.log l.run;
      order : l.log.closed ≡ false → l.log.gate ≤ l.run.next;
      same : told (d.seen l.disk) ≡ told (d.seen l.fn.disk);
      taken : l.log.closed ≡ false → HasTaken (d.seen l.disk) l.log l.run (replicate l._done l.payload);
    }
