-- What is counted so far, and the children that are left, are all.
use Rattle.std.proofs.Common.{◌≡◌, ◌+◌, ◌≤◌, drop, length}
use Rattle.mt_model.specs.Rows.{children}
use Rattle.mt_tree.specs.Plain.{pairs}
use Rattle.mt_tree.proofs.plain.count.Given as goal

abbrev pub invariant-loop-row : goal.invariant-loop-row
invariant-loop-row g l = record {
  counted : l.n + length (children (pairs (drop l.row-index l.rows)) l.dir) ≡ length (children (pairs l.rows) l.dir);
  few : l.n ≤ l.row-index;
}
