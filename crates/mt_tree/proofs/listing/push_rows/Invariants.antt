-- What is copied so far, and the front of what is left, are what was asked for; what is left has keys.
use Rattle.std.proofs.Common.{◌-◌, ◌++◌, length, map, take}
use Rattle.mt_path.specs.AccountPath.{IsPath}
use Rattle.mt_model.specs.Rows.{row_of}
use Rattle.mt_tree.specs.AreaRows.{in_area, rows_of}
use Rattle.mt_tree.specs.Keys.{AreKeys, opened}
use Rattle.mt_tree.proofs.Copies.{Copying}
use Rattle.mt_tree.proofs.Joined.{path_in}
use Rattle.mt_tree.proofs.Shown.{listed}
use Rattle.mt_tree.proofs.listing.push_rows.Given as goal

abbrev pub invariant-loop-key : goal.invariant-loop-key
invariant-loop-key g l = record {
  copying : Copying (listed l.area) (λ q. IsPath (path_in l.area q)) l.limit
      (l.fn.out.items ++ map row_of (take (l.limit - length l.fn.out.items) (rows_of (in_area l.area (opened l.fn.rest))))) l.out.items (opened l.key-iterator);
  keys : AreKeys l.key-iterator;
}
