-- How far the walk has come; fewer rows are left after each step.
use Rattle.std.proofs.Common.{length}
use Rattle.mt_path.specs.Keys.{parts_of}
use Rattle.mt_tree.specs.Keys.{opened}
use Rattle.mt_tree.proofs.Paging.{Paging}
use Rattle.mt_tree.proofs.listing.page_rows.Given as goal

abbrev pub invariant-walk : goal.invariant-walk
invariant-walk g l = Paging l.rows.entries (parts_of l.dir) l.marker l.limit l.out.items l.rest

abbrev pub decreases-walk : goal.decreases-walk
decreases-walk g l = length (opened l.rest)
