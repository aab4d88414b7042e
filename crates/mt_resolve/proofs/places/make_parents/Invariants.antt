use Rattle.mt_resolve.specs.Undo.{StaysBack}
use Rattle.mt_resolve.proofs.Parents.{Making}
use Rattle.mt_resolve.proofs.places.make_parents.Given as goal

abbrev pub invariant-loop-count : goal.invariant-loop-count
invariant-loop-count g l = record {
  making : Making l.path l.moment l.fn.tree l.count l.tree;
  back : StaysBack l.fn.changes.items l.fn.tree l.changes.items l.tree;
}
