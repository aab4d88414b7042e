-- what was looked at rises, up to the last name
use Rattle.std.proofs.Common.{◌≡◌, drop}
use Rattle.mt_page.specs.Pages.{rises_above}
use Rattle.mt_page.proofs.order.rises_above.Given as goal

abbrev pub invariant-loop-row : goal.invariant-loop-row
invariant-loop-row l = rises_above l.fn.name l.rows ≡ rises_above l.last (drop l.row-index l.rows)
