-- the rows so far are those of the lines before the rest
use Rattle.std.proofs.Common.{◌≡◌, length}
use Rattle.mt_page.specs.Pages.{rows_in}
use Rattle.mt_page.proofs.PageLines.{onto}
use Rattle.mt_page.proofs.reading.read_rows.Given as goal

abbrev pub invariant-loop-rest : goal.invariant-loop-rest
invariant-loop-rest l = rows_in l.dir l.bytes ≡ onto l.rows.items (rows_in l.dir l.rest)

abbrev pub decreases-loop-rest : goal.decreases-loop-rest
decreases-loop-rest l = length l.rest
