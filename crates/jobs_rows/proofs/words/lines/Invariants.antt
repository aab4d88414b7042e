-- The lines so far are well made.
use Rattle.std.specs.List.{AllByRecursion}
use Rattle.mt_types.specs.WellMade.{IsWellMadeLine}
use Rattle.jobs_rows.proofs.words.lines.Given as goal

abbrev pub invariant-loop-place : goal.invariant-loop-place
invariant-loop-place l = AllByRecursion IsWellMadeLine l.lines.items
