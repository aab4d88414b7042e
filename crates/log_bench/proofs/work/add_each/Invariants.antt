use Rattle.std.proofs.Common.{◌≡◌, false, replicate}
use Rattle.mt_log.specs.LogState.{Stands, told, with_payloads}
use Rattle.log_bench.proofs.work.add_each.Given as goal

abbrev pub invariant-loop-done : goal.invariant-loop-done
invariant-loop-done g l =
    let d = g.D.Disk in
    record {
      stands : Stands d.seen d.may_leave l.disk l.log;
      version : l.log.closed ≡ false → l.log.is_old ≡ false;
      added : told (d.seen l.disk) ≡ with_payloads (replicate l._done l.payload) (told (d.seen l.fn.disk));
    }
