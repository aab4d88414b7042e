use Rattle.std.proofs.Common.{◌≡◌, ◌≤◌, true, drop, length}
use Rattle.mt_resolve.specs.Taking.{are_fresh}
use Rattle.mt_resolve.proofs.records.refusable.Given as goal

abbrev pub invariant-records : goal.invariant-records
invariant-records g l = record {
  few : l.count ≤ length l.records;
  fresh : are_fresh (drop l.count l.records) ≡ true;
}

abbrev pub decreases-records : goal.decreases-records
decreases-records g l = l.count
