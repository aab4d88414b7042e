use Rattle.std.proofs.Common.{◌≡◌, reverse, vec_len}
use Rattle.mt_resolve.specs.Undo.{MayAllBack, all_back}
use Rattle.mt_resolve.proofs.undo.take_back.Given as goal

abbrev pub invariant-loop-change : goal.invariant-loop-change
invariant-loop-change g l = record {
  may : MayAllBack (reverse l.left.items) l.tree;
  back : all_back (reverse l.left.items) l.tree ≡ all_back (reverse l.fn.changes.items) l.fn.tree;
}

abbrev pub decreases-loop-change : goal.decreases-loop-change
decreases-loop-change g l = vec_len l.left
