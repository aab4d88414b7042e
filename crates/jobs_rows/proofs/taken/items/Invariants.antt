-- The items so far are lawful, and as many as are counted.
use Rattle.std.proofs.Common.{◌≡◌, length}
use Rattle.std.specs.Prelude.{All}
use Rattle.mt_model.specs.Lawful.{LawfulItem}
use Rattle.jobs_rows.proofs.taken.items.Given as goal

abbrev pub invariant-loop-k : goal.invariant-loop-k
invariant-loop-k l = record {
  few : length l.items.items ≡ l.k;
  each : All LawfulItem l.items.items;
}
