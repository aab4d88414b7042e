-- The records so far are well made.
use Rattle.std.proofs.Common.{◌≡◌, ◌≤◌, ◌+◌, length}
use Rattle.std.specs.List.{AllByRecursion}
use Rattle.mt_types.specs.WellMade.{IsWellMadeRecord}
use Rattle.jobs_rows.proofs.words.good.Given as goal

abbrev pub invariant-loop-k : goal.invariant-loop-k
invariant-loop-k l = record {
  few : length l.records.items + 1 ≡ l.k;
  most : l.k ≤ l.count + 1;
  each : AllByRecursion IsWellMadeRecord l.records.items;
}
