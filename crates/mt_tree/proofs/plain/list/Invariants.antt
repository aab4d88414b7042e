-- What is found so far, and the front of what is left, are the page.
use Rattle.std.proofs.Common.{drop, map}
use Rattle.mt_model.specs.Listing.{listing}
use Rattle.mt_model.specs.Rows.{row_of}
use Rattle.mt_tree.specs.Plain.{pairs}
use Rattle.mt_tree.proofs.Scans.{Scanning}
use Rattle.mt_tree.proofs.plain.list.Given as goal

abbrev pub invariant-loop-row : goal.invariant-loop-row
invariant-loop-row g l = Scanning l.dir l.marker l.limit (map row_of (listing (pairs l.rows) l.dir l.marker l.limit)) l.page (drop l.row-index l.rows)
