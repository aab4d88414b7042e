-- what is left shows what is still to be shown
use Rattle.std.proofs.Common.{string_bytes, length}
use Rattle.mt_script.specs.Levels.{shown}
use Rattle.mt_script.proofs.Showing.{StillShows}
use Rattle.mt_script.proofs.rows.show_rows.Given as goal

abbrev pub invariant-loop-row : goal.invariant-loop-row
invariant-loop-row l = StillShows (string_bytes l.fn.out) (shown l.deep l.login l.dir l.fn.rows.items) (string_bytes l.out) (shown l.deep l.login l.dir l.rows.items)

abbrev pub decreases-loop-row : goal.decreases-loop-row
decreases-loop-row l = length l.rows.items
