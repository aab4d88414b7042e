use Rattle.std.proofs.Common.{◌≡◌, ◌≤◌, take}
use Rattle.std.specs.Prelude.{count_by, is_some}
use Rattle.mt_jobtext.specs.Pieces.{failed_path}
use Rattle.mt_jobtext.proofs.stats.name_count.Given as goal

abbrev pub invariant-loop-entry : goal.invariant-loop-entry
invariant-loop-entry g l = (l.names ≡ count_by (λ e. is_some (failed_path l.kept.job e)) (take l.entry-index l.trace)) × (l.names ≤ l.entry-index)
