use Rattle.mt_tree.proofs.Roots.{roots-kept}
use Rattle.mt_tree.proofs.areas.Areas.new.Goals as goal

pub returns-clause-kept : goal.returns-clause-kept
returns-clause-kept g c = roots-kept _ _ _ _ c.in_ok-root_alone.ensures c.in_ok-root_alone-2.ensures c.in_ok-root_alone-3.ensures
