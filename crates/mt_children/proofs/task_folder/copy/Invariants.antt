-- The source stays itself, and its faults never fell.
use Rattle.mt_base.specs.Counts.{NeverFell}
use Rattle.mt_children.proofs.task_folder.copy.Given as goal

abbrev pub invariant-copy : goal.invariant-copy
invariant-copy g l = record {
  faults : NeverFell (g.S.Source.read_faults l.fn.bytes) (g.S.Source.read_faults l.bytes);
  stays : g.S.Source.source_stays l.fn.bytes l.bytes;
}

abbrev pub decreases-copy : goal.decreases-copy
decreases-copy g l = l.left
