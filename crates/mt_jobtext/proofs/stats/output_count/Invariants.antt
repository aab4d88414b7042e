use Rattle.std.proofs.Common.{◌≡◌, ◌+◌, ◌-◌, length, drop}
use Rattle.mt_model.specs.Feed.{entries_of, items_in}
use Rattle.mt_jobtext.proofs.stats.output_count.Given as goal

-- what is counted and the rest is the whole
abbrev pub invariant-loop-entry : goal.invariant-loop-entry
invariant-loop-entry g l =
    l.outputs + length (items_in (entries_of (l.phases - 1) (drop l.entry-index l.trace))) ≡ length (items_in (entries_of (l.phases - 1) l.trace))
