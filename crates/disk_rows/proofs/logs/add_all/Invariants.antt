use Rattle.std.proofs.Common.{◌≡◌, ◌≤◌, false}
use Rattle.disk_rows.proofs.logs.add_all.Given as goal

abbrev pub invariant-loop-place : goal.invariant-loop-place
invariant-loop-place l = l.log.closed ≡ false → l.log.gate ≤ l.run.next
