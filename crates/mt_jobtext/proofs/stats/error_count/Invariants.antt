use Rattle.std.proofs.Common.{◌≡◌, ◌≤◌, take}
use Rattle.std.specs.Prelude.{count_by}
use Rattle.mt_jobtext.specs.Pieces.{is_bad}
use Rattle.mt_jobtext.proofs.stats.error_count.Given as goal

abbrev pub invariant-loop-entry : goal.invariant-loop-entry
invariant-loop-entry g l = (l.failed ≡ count_by is_bad (take l.entry-index l.trace)) × (l.failed ≤ l.entry-index)
