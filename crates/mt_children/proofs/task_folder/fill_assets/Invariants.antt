-- The source stays itself, and its faults never fell.
use Rattle.mt_base.specs.Counts.{NeverFell}
use Rattle.mt_children.proofs.task_folder.fill_assets.Given as goal

abbrev pub invariant-assets : goal.invariant-assets
invariant-assets g l = record {
  faults : NeverFell (g.S.Source.read_faults l.fn.bytes) (g.S.Source.read_faults l.bytes);
  stays : g.S.Source.source_stays l.fn.bytes l.bytes;
}
