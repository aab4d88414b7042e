-- Each moment so far is one that a clock has.
use Rattle.std.proofs.Common.{◌≤◌}
use Rattle.std.specs.List.{All}
use Rattle.mt_base.specs.declared.limits.TheConstants.{LAST_MOMENT}
use Rattle.session_rows.proofs.store.Ends.clock.Given as goal

abbrev pub invariant-loop-moment : goal.invariant-loop-moment
invariant-loop-moment l = record { listed : All (λ m. m ≤ LAST_MOMENT) l.listed.items; later : l.later ≤ LAST_MOMENT }
