-- The records so far are well made.
use Rattle.std.proofs.Common.{◌≡◌, ◌≤◌, length}
use Rattle.std.specs.List.{AllByRecursion}
use Rattle.mt_types.specs.WellMade.{IsWellMadeRecord}
use Rattle.jobs_rows.proofs.words.outputs.Given as goal

abbrev pub invariant-loop-k : goal.invariant-loop-k
invariant-loop-k l = record {
  few : length l.records.items ≡ l._k;
  most : l._k ≤ l.count;
  each : AllByRecursion IsWellMadeRecord l.records.items;
}
